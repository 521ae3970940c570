-- What it is that a system covers every point, and the test of it.
pub mod Cover

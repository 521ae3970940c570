-- What it is that a row expands, and the test of it.
pub mod Expanding

-- Recognised: what it is for a system to be a built-in one.
pub mod Recognised

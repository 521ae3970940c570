-- What the C functions promise: what each call leaves.
pub mod Calls

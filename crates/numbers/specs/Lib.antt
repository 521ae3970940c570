-- How a system and a state are written as numbers at the C boundary.
pub mod Numbers

-- Document 01, "The program": the second line.
pub mod StateLine

-- Document 01, "The program", as definitions.
--   Text       what is printed of a file
--   Responds   what the program's one function promises
pub mod Text
pub mod Responds

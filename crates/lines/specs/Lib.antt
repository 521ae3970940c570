-- Document 01, "The program", as definitions.
--   Lines   the three lines of an answer, and the one line of a refused file
pub mod Lines

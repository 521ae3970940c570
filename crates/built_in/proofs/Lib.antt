-- Which built-in systems a run has. Laws is the front door.
--   Same        a system that has the rows of a table has its digits
--   Decisions   answers that decide
pub mod Laws
mod Same
mod Decisions

-- Runs over two words, over lent numbers: the front door is Laws.
--   ReadBack  the numbers that a plug-in keeps are read as the state that they were written for, and a turn that is none is refused
--   Ran       what a run leaves, from what it answered
pub mod Laws
mod ReadBack
mod Ran

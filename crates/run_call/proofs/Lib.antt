-- A run over lent numbers: the front door is Laws.
--   Ran       what a run leaves, from what it answered
pub mod Laws
mod Ran

-- The theory of runs. Laws is the front door.
--   Spending   deeds one after the other
--   Runs       what holds of every run of a lawful machine
--   Judged     and of one that is judged first
--   Plans      a machine that goes by plans is lawful and steady
--   Loop       a loop of code that makes the steps of a run
mod Spending
mod Runs
mod Judged
mod Plans
mod Loop
pub mod Laws

-- What is judged before any step, as theorems: the front door is Laws.
--   Judging   accepted, the numbers of refusal, the test of refusal 12
mod Judging
pub mod Laws

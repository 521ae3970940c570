-- Runs over two words, as theorems. Laws is the front door. The folders prove the functions of src/lib.rt, each by its name.
--   TwoJudging   what is judged before any step: accepted, and the numbers of refusal
--   TwoRuns      in_range, written_only, refused_untouched, few_steps
--   TwoAgain     a stopped run stops again; a run may be cut anywhere, in both words and in its room
--   TwoSameRun   the same digits make the same run, wherever their numbers stand and whatever is kept for digits that a system hasn't got
--   TwoTurn      for the loop: a turn of it is a step of the run
mod TwoJudging
mod TwoRuns
mod TwoAgain
mod TwoSameRun
mod TwoTurn
pub mod Laws

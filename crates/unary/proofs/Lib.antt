-- The unary algorithm, as theorems. Laws is the front door.
--   Runs        in_range, written_only, refused_untouched, few_steps
--   Again       a stopped run stops again; a run may be cut anywhere, in its input and in its room
--   SameRun     the same digits make the same run, wherever their numbers stand and whatever is kept for digits that a system hasn't got
--   BothOrders  so a run is the same over rows and over their columns
--   DivisorList how many divisors are listed; a list that is long enough
--   Turn        for the loop: a turn of it is a step of the run
-- The folders prove the functions of src/lib.rt, each by its name.
mod Runs
mod Again
mod SameRun
mod BothOrders
mod DivisorList
mod Turn
pub mod Laws

-- One step, as theorems. Laws is the front door.
--   Lawful    the step is one of the kind that crates/runs speaks of
--   Kept      every step keeps the rules for a state and gives out digits only; the chosen digit fits
--   SamePlan  numbers of digits that a system hasn't got change no step
--   Cancelled lines 4 and 5 where they cancel: what holds where the plan goes on, and where it stops
--   Listing   how many numbers a step lists; one that takes a byte in does not look at the list
--   FullList  where a step ends 15, and that it stops otherwise before a longer list too
--   Plans, Factors, ByDeterminant   for the functions of src/: a plan's tests come out, its products can be formed, and they are cancelled by a determinant
mod Lawful
mod Kept
mod SamePlan
mod Cancelled
mod Listing
mod FullList
mod Plans
mod Factors
mod ByDeterminant
pub mod Laws

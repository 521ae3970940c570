-- One step over two words, as theorems. Laws is the front door. The folders prove the functions of src/, each by its name, those of src/loading.rt and
-- src/making.rt in folders of their own.
--   Ways       the five ways that a step goes on and the four in which it stops: what is to be shown of a step is shown of these
--   Lawful     the step is one of the kind that crates/runs speaks of
--   Kept       every step keeps the rules for a state and gives out digits only
--   SamePlan   numbers of digits that a system hasn't got change no step
--   Plans, Works   for the functions of src/: a plan's tests come out, and what they rely on is there
mod Ways
mod Lawful
mod Kept
mod SamePlan
mod Plans
mod Works
pub mod Laws

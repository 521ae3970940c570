-- The folders prove the functions of src/lib.rt, each by its name. What cancelling says is in crates/plane (proofs/Cancelling.antt), and which number the divisor of a step
-- divides, too (proofs/Divides.antt).
--   FromDivisor     a matrix cancelled, from its divisor
--   FromMultiple    the divisor, from a number that it divides
--   EvenNumbers    even numbers on machine words, and their halves
pub mod Laws
mod FromDivisor
mod FromMultiple
mod EvenNumbers

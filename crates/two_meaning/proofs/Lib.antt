-- Demand 3 for runs over two words, as theorems. Laws is the front door. In the order in which they rest on each other:
--   UpToScale     eight numbers that are equal up to a positive scale, and what each kind of step does to them
--   TwoMoments    what holds from the opened state on, step by step
--   TwoClaims     the sentences of demand 3, read off it
--   TwoSessions   the sentences of sessions and of every moment within a call, and the bridge to the code
--   WorkedPairs   a sum, a product and a difference, worked; WorkedPairsHold has them under one theorem
mod UpToScale
mod TwoMoments
mod TwoClaims
mod TwoSessions
mod WorkedPairs
mod WorkedPairsHold
pub mod Laws

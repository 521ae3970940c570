-- Document 02, T-14: one step of a run over two words, as a plan, and what the code's step has to do with it.
--   Types     the types of src/
--   TwoStep   the lines of a step, as a plan
--   Made      what a step of the code stands for, and what the inner functions may rely on: for proofs, a reader of the contracts above needs none of it
pub mod Types
pub mod TwoStep
pub mod Made

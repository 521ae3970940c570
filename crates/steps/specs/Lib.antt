-- Document 01, "The step": the five lines as a plan, and what the code's step has to do with it. (The state: crates/states/specs.)
--   Types   the types of src/
--   Step    the five lines, as a plan
--   Made    what a step of the code stands for, and what the inner functions may rely on: for proofs, a reader of the contracts above needs none of it
pub mod Types
pub mod Step
pub mod Made

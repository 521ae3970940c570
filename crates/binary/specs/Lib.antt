-- Document 02, T-14: a run over two words, as definitions. (The state, the step: crates/two_states, two_steps.)
--   Types       the types of src/
--   TwoRun      what is judged, and a run
--   TwoRanges   the ranges of what it answers
pub mod Types
pub mod TwoRun
pub mod TwoRanges

-- The state of a run over two words, as theorems. Laws is the front door. The folder proves the function of src/lib.rt that needs it.
--   TwoRules   the test of refusal 12 says the rules for a state, which the openings keep
mod TwoRules
pub mod Laws

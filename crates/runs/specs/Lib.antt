-- A run, whatever makes its steps.
--   Supply    what lies before a run, and what it does: bytes, digits, divisors
--   Machine   what makes one step
--   Plan      a step as a plan, which asks for what it needs in the order of the rules
--   Run       the steps one after the other, as a list of steps and as what is worked out; a run that is judged first
--   Asked     what is asked of machines and plans, for theorems
pub mod Supply
pub mod Machine
pub mod Plan
pub mod Run
pub mod Asked

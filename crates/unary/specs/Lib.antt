-- Document 01, "The step": a run, as definitions. (The state, opening, the step itself and what is judged before it: crates/states, opening, steps, judging.)
pub mod Types
pub mod Run
pub mod Ranges

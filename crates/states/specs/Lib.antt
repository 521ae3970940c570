-- Document 01, "The step": the state, its rules and its four builders; the ends and their numbers.
pub mod Types
pub mod State

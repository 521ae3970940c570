-- Document 01, "The step": what is judged before any step.
pub mod Refusal

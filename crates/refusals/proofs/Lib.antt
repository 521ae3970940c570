-- The numbers of refusal tell the refusals apart, and none of them is 0.
--   Numbers   `one_refusal`, `numbered`
pub mod Numbers

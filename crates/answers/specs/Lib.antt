-- Demand 1: "Every call ends on every input, with each number it answers inside its stated range, those of a refused state handed back apart."
--   Numbers   the numbers of refusal, by what they refuse
--   Answers   what admitting, opening, reading and writing can answer. (A run: `AnswerInRange`, crates/unary/specs.)
--   Calls     what the C functions can answer, and what they leave in the lent numbers
--   TwoCalls  the same of those for two words
pub mod Numbers
pub mod Answers
pub mod Calls
pub mod TwoCalls

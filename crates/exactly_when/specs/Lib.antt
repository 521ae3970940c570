-- When a step does what, when a run ends how, and when it is refused, in document 01's words.
--   Lines   the five lines of the step, as sentences
--   Ends    the ends of a run, and its refusals
pub mod Lines
pub mod Ends

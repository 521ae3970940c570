-- When a step does what, when a run ends how, and when it is refused: document 01's sentences, proved both ways. Laws is the front door.
--   Chosen           the digit that is chosen is the smallest whose interval includes X·W_held
--   Leaving          an entry leaves the range exactly if the test of the range fails
--   StepExactly      the step does v exactly if one of the five lines says so
--   RefusedExactly   a run is refused by n exactly if the sentence of n holds
--   StepsRun         a run is its steps, up to one that halts
--   EndsExactly      a run ends so exactly if the line that stops so applies to what it answers
--   AfterRangeLeft   after end 22 every call ends so again, or 20
--   TakenDigits      every byte that a run took is a digit of the input system
mod Chosen
mod Leaving
mod StepExactly
mod RefusedExactly
mod StepsRun
mod EndsExactly
mod AfterRangeLeft
mod TakenDigits
pub mod Laws

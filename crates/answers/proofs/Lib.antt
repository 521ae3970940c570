-- What holds of every answer, as theorems: demand 1, "with each number it answers inside its stated range, those of a refused state handed back apart"; that no second
-- answer fits; and how long a job file is. Laws is the front door.
--   Settled   the largest file is reached; the program's text depends only on the first 4,625 bytes
--   Sections  which numbers a section of a file can be refused by, read or to be written
--   Answers   the range of what admitting, opening, reading and writing answer
--   Runs      the range of what a run leaves in lent numbers
--   Calls     the range of what the C functions answer and leave
--   TwoRuns   the range of what a run over two words leaves in lent numbers
--   TwoCalls  the range of what the C functions for two words answer and leave
--   OneAnswer no second answer fits, function by function
--   NeverFull the program's list never fills, nor does a plug-in's that is long enough
pub mod Laws
mod Settled
mod Sections
mod Answers
mod Runs
mod Calls
mod TwoRuns
mod TwoCalls
mod OneAnswer
mod NeverFull

-- Document 01's section "Numbers of refusal", and document 02's 14 and 18.
use Rattle.std.specs.Prelude.{ℕ}
use Rattle.refusals.specs.Types.{Refusal, CutOff, BytesFollow, WrongCount, MatrixCount, WordCount, OutOfRange, NotAbove, NotBelow}
use Rattle.refusals.specs.Types.{NotLowest, Uncovered, MatrixNotAbove, State, BufferShort, NotExpanding, Result, Ok, Err}

abbrev pub number_of : Refusal → ℕ
number_of CutOff = 1
number_of BytesFollow = 2
number_of WrongCount = 3
number_of MatrixCount = 4
number_of WordCount = 5
number_of OutOfRange = 6
number_of NotAbove = 7
number_of NotBelow = 8
number_of NotLowest = 9
number_of Uncovered = 10
number_of MatrixNotAbove = 11
number_of State = 12
number_of BufferShort = 14
number_of NotExpanding = 18

-- what a judgement answers: nothing is refused, or this is
abbrev pub Judgement : Type 0
Judgement = Result (Unit {0}) Refusal

-- "0 passes"
abbrev pub outcome_number : {A : Type 0} → Result A Refusal → ℕ
outcome_number (Ok v) = 0
outcome_number (Err r) = number_of r

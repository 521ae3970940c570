-- The types of opening, for one `use` line: what it answers, and what it hands out.
use Rattle.refusals.specs.Types as R
use Rattle.refusals.specs.Numbers.{Judgement}
use Rattle.states.specs.Types.{State}
pub use R.{Refusal, OutOfRange, MatrixNotAbove, Result, Ok, Err}

-- it opens, or is refused
abbrev pub Opening : Type 0
Opening = Judgement

abbrev pub Opens : Opening
Opens = R.Ok tt

-- an opened session, or the refusal with nothing in the state's place
pub record Start : Type 0 where
  pub opening : Opening
  pub state : State

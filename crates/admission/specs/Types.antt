-- What the judgement of a system answers, for one `use` line: admitted, or which refusal applies first.
use Rattle.refusals.specs.Types as R
use Rattle.refusals.specs.Numbers.{Judgement}
pub use R.{Ok, Err, WrongCount, OutOfRange, NotAbove, NotBelow, NotLowest, Uncovered, NotExpanding}

abbrev pub Admission : Type 0
Admission = Judgement

abbrev pub Admitted : Admission
Admitted = Ok tt

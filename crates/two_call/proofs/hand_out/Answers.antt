-- `two_call::hand_out` meets its contract: a slice of eleven numbers is written whole, and any other is left.
use Rattle.whole.proofs.Laws.{ap, eq-eqb, ne_eqb}
use Rattle.numbers.proofs.Laws.{wrote}
use Rattle.two_call.specs.TwoCall.{two_opened}
use Rattle.two_call.proofs.hand_out.Goals as goal

pub returns-then-state-ne11 : goal.returns-then-state-ne11
unfolding two_opened
returns-then-state-ne11 c = rw (ne_eqb _ _ c.if-state-ne11.true)

pub returns : goal.returns
unfolding two_opened
returns c = rw (eq-eqb _ _ c.if-state-ne11.false) (ap (wrote 0) c.put_state.ensures)

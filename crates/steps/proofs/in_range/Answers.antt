-- `steps::in_range` meets its contract: the range's test decides between the two moves.
use Rattle.whole.proofs.Laws.{sym, ◌∙◌}
use Rattle.steps.proofs.in_range.Goals as goal

pub returns-then-within : goal.returns-then-within
returns-then-within c = rw (sym c.within.ensures ∙ c.if-within.true)

pub returns : goal.returns
returns c = rw (sym c.within.ensures ∙ c.if-within.false)

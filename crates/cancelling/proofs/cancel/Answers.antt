-- `cancelling::cancel` meets its contract: the greatest common divisor is above 0, fits, and divides each entry; and where it is 1, the quotients are the entries.
use Rattle.whole.proofs.Laws.{sym, ◌∙◌, arith}
use Rattle.cancelling.proofs.FromDivisor.{divides, cancelled, kept}
use Rattle.cancelling.proofs.cancel.Goals as goal

pub returns-then-g-eq1 : goal.returns-then-g-eq1
returns-then-g-eq1 c = rw c.kept.ensures (kept c.args.m (omega arith) (sym c.if-g-eq1.true ∙ c.divisor-g.ensures))

pub quotients-requires : goal.quotients-requires
quotients-requires c = divides c.args.m c.requires.0 c.requires.1 c.divisor-g.ensures

pub returns : goal.returns
returns c = cancelled c.args.m c.divisor-g.ensures c.quotients.ensures

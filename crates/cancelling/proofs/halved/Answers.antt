-- `cancelling::halved` meets its contract: a divisor of 2 is 2 where all four entries are even; else it is 1, and the entries stay.
use Rattle.whole.proofs.Laws.{◌∙◌, sym, true≢false, arith}
use Rattle.cancelling.proofs.FromDivisor.{cancelled, kept}
use Rattle.cancelling.proofs.FromMultiple.{of_even, of_odd}
use Rattle.cancelling.proofs.halved.Goals as goal

pub returns-then-even : goal.returns-then-even
returns-then-even c = cancelled c.args.m (of_even c.requires (c.even.ensures.0 c.if-even.true)) c.halves.ensures

pub returns-else-even : goal.returns-else-even
returns-else-even c = rw c.kept.ensures (kept c.args.m (omega arith) (of_odd c.requires (λ v. true≢false (sym (c.even.ensures.1 v) ∙ c.if-even.false))))

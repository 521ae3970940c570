-- `cancelling::cancel_by` meets its contract: a divisor of 1 is 1 and leaves the entries, `halved` has the case of 2, and else `shared` finds it.
use Rattle.whole.proofs.Laws.{◌∙◌, subst, ℕ, ◌∣◌, arith, gcd4}
use native.Mathlib.Nat.{pos_of_dvd_of_pos}
use Rattle.cancelling.proofs.FromDivisor.{divides, cancelled, kept}
use Rattle.cancelling.proofs.FromMultiple.{of_one, of_multiple}
use Rattle.cancelling.proofs.cancel_by.Goals as goal

pub returns-in-1 : goal.returns-in-1
returns-in-1 c = rw c.kept.ensures (kept c.args.m (omega arith) (of_one c.args.m c.requires.2 c.in-1.is))

pub halved-requires : goal.halved-requires
halved-requires c = subst (λ (k : ℕ). gcd4 c.args.m ∣ k) c.in-2.is c.requires.2

pub quotients-requires : goal.quotients-requires
quotients-requires c = divides c.args.m c.requires.0 (pos_of_dvd_of_pos c.requires.2 c.requires.1) (c.shared-common.ensures ∙ of_multiple c.args.m c.args.d c.requires.2)

pub returns-in_default : goal.returns-in_default
returns-in_default c = cancelled c.args.m (c.shared-common.ensures ∙ of_multiple c.args.m c.args.d c.requires.2) c.quotients.ensures

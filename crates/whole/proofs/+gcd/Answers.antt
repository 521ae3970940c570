-- `whole::gcd` meets its contract: Euclid's end and his step.
use Rattle.whole.proofs.Base.{sym, ◌∙◌}
use Rattle.whole.proofs.Divisor.{gcd_end, gcd_step}
use Rattle.whole.proofs.+gcd.Goals as goal

-- the end
pub returns-then-b-eq0 : goal.returns-then-b-eq0
returns-then-b-eq0 t c = sym (gcd_end _ _ c.if-b-eq0.true)

-- the step
pub returns-else-b-eq0 : goal.returns-else-b-eq0
returns-else-b-eq0 t c = c.gcd.ensures ∙ gcd_step c.args.a c.args.b

-- `bilinear::lowest` meets its contract: the divisor of the eight is that of the two divisors of four.
use Rattle.whole.proofs.Laws.{◌∙◌, ap, ap₂, eqb, ℕ, gcd}
use Rattle.bilinear.specs.Lowest.{gcd8}
use Rattle.bilinear.proofs.lowest.Goals as goal

pub returns : goal.returns
unfolding gcd8
returns c = ap (λ (n : ℕ). eqb n 1) (c.gcd.ensures ∙ ap₂ gcd c.divisor.ensures c.divisor-2.ensures)

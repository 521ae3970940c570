-- `symmetry::product_of_three` meets its contract: the product of the first two is small enough for the second product.
use Rattle.whole.proofs.Laws.{sym, ◌∙◌, ap, subst, List, ℤ, Within, within_le}
use Rattle.plane.proofs.Laws.{multiply_of, multiply_within}
use Rattle.products.proofs.Laws.{factors_fit}
use Rattle.symmetry.proofs.product_of_three.Goals as goal

pub multiply-requires-2 : goal.multiply-requires-2
multiply-requires-2 c =
    let p = c.requires in
    factors_fit (subst (Within 1000000000) (sym c.multiply.ensures) (within_le (multiply_within p.0 p.1) tt)) p.2 tt

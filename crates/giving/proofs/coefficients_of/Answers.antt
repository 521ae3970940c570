-- `giving::coefficients_of` meets its contract: each of the two is what `determinant` ensures of the image and an end of u, which are read back as they are.
use Rattle.whole.proofs.Laws.{[], ◌∷◌}
use Rattle.plane.proofs.Laws.{determinant_held}
use Rattle.giving.proofs.coefficients_of.Goals as goal

pub returns : goal.returns
returns c =
    let p = c.requires in
    λ i.
    determinant_held tt tt p.0 p.1 p.2.n2 p.2.n3 c.determinant.type_inv c.determinant.ensures i ∷
    determinant_held tt tt p.2.n0 p.2.n1 p.0 p.1 c.determinant-2.type_inv c.determinant-2.ensures i ∷ []

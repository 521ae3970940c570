-- `inclusion::sides` meets its contract: each of the two is what `determinant` ensures of the end of I and an end of J, which are read back as they are.
use Rattle.whole.proofs.Laws.{[], ◌∷◌}
use Rattle.plane.proofs.Laws.{determinant_held}
use Rattle.inclusion.specs.Inclusion.{sides_of}
use Rattle.inclusion.proofs.sides.Goals as goal

pub returns : goal.returns
unfolding sides_of
returns c =
    let r = c.requires in
    λ i.
    determinant_held tt tt r.0 r.1 r.2.n0 r.2.n1 c.determinant.type_inv c.determinant.ensures i ∷
    determinant_held tt tt r.0 r.1 r.2.n2 r.2.n3 c.determinant-2.type_inv c.determinant-2.ensures i ∷ []

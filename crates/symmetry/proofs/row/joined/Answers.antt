-- `symmetry::row::joined` meets its contract: each number fits an i16, and is kept as it is.
use Rattle.whole.proofs.Laws.{◌≡◌, ℤ, ◌∷◌, [], Near, near_fits, narrow_fits, narrow_back, held}
use mir.Syntax.{w16}
use mir.Val.{SFits, to_z, of_z}
use Rattle.symmetry.proofs.row.joined.Goals as goal

fits : {z : ℤ} → Near 400 z → SFits w16 (held z)
fits h = narrow_fits (near_fits h tt)

kept : {z : ℤ} → Near 400 z → to_z w16 (of_z w16 (held z)) ≡ z
kept h = narrow_back (near_fits h tt)

pub returns : goal.returns
returns c =
    let p = c.requires in
    λ i. kept p.0.n0 i ∷ kept p.0.n1 i ∷ kept p.0.n2 i ∷ kept p.0.n3 i ∷ kept p.1.n0 i ∷ kept p.1.n1 i ∷ kept p.1.n2 i ∷ kept p.1.n3 i ∷ []

-- `plane::pseudoinverse` meets its contract: a negation is worked out as 0 less the number, and fits.
use Rattle.whole.proofs.Laws.{◌≡◌, ◌∙◌, ℤ, pos, neg_ℤ, ◌-ℤ◌, +ℤ_idl, Near, literal, stored, back, sub_stands, held}
use Rattle.plane.specs.Plane.{pseudoinverse_of}
use Rattle.plane.proofs.Identities.{four_equal}
use Rattle.plane.proofs.pseudoinverse.Goals as goal

negated : {z : ℤ} → Near 1000000000 z → held (pos 0 -ℤ held z) ≡ neg_ℤ z
negated {z} h = (sub_stands (literal (pos 0)) (stored h tt) tt).is ∙ +ℤ_idl (neg_ℤ z)

pub returns : goal.returns
unfolding pseudoinverse_of
returns c = let p = c.requires in four_equal (back p.n3 tt) (negated p.n1) (negated p.n2) (back p.n0 tt)

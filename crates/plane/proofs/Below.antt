-- "So (1/0, 1/−1) runs from infinity to −1" (document 01): it is an interval, and a point is inside exactly if it is a fraction below −1.
-- The argument: with x = (1, 0) and y = (1, −1), det(x, z) is z1 and det(z, y) is −z0 − z1; their product is above 0 exactly if both are, or both are below.
use Rattle.whole.proofs.Laws.{◌↔◌, inl, inr, lt_z_yes, ◌⊗◌, ⊝◌, #, ◌≺◌, linear, ◌⇒◌, ◌from◌, claim, quadratic, product_ps}
use Rattle.plane.specs.Plane.{Pair, Point, det, left, right, Interval, Inside}
use Rattle.plane.specs.Below.{infinity_to_minus1, BelowMinus1}
use Rattle.plane.proofs.Identities.{det_e}

pub infinity_to_minus_1 : Interval infinity_to_minus1
infinity_to_minus_1 = record { below = lt_z_yes tt }

pub from_infinity_to_minus_1 : (z : Pair) → Point z → Inside infinity_to_minus1 z ↔ BelowMinus1 z
from_infinity_to_minus_1 z p = (to, back)
  where
    to : Inside infinity_to_minus1 z → BelowMinus1 z
    to i = elim (product_ps (det (left infinity_to_minus1) z) (det z (right infinity_to_minus1)) i.above) [
      | inl k ↦ inl (
        claim 2 (λ a b. # 0 ≺ det_e (# 1) (# 0) a b ⇒ # 0 ≺ b from linear) tt z.z0 z.z1 k.0,
        claim 2 (λ a b. # 0 ≺ det_e a b (# 1) (⊝ # 1) ⇒ a ≺ ⊝ b from linear) tt z.z0 z.z1 k.1,
      )
      | inr k ↦ inr (
        claim 2 (λ a b. det_e (# 1) (# 0) a b ≺ # 0 ⇒ b ≺ # 0 from linear) tt z.z0 z.z1 k.0,
        claim 2 (λ a b. det_e a b (# 1) (⊝ # 1) ≺ # 0 ⇒ ⊝ b ≺ a from linear) tt z.z0 z.z1 k.1,
      )
    ]

    back : BelowMinus1 z → Inside infinity_to_minus1 z
    back (inl k) = record { above = claim 2 (λ a b. # 0 ≺ b ⇒ a ≺ ⊝ b ⇒ # 0 ≺ det_e (# 1) (# 0) a b ⊗ det_e a b (# 1) (⊝ # 1) from quadratic) tt z.z0 z.z1 k.0 k.1 }
    back (inr k) = record { above = claim 2 (λ a b. b ≺ # 0 ⇒ ⊝ b ≺ a ⇒ # 0 ≺ det_e (# 1) (# 0) a b ⊗ det_e a b (# 1) (⊝ # 1) from quadratic) tt z.z0 z.z1 k.0 k.1 }

-- The points inside an interval (x, y) are the mixtures α·x + β·y with α·β > 0. Each such mixture is inside (`mix_inside`), and is a point (`inside_point`); and each pair z is a
-- mixture, up to a factor, by Cramer's rule (`cramer`), where the product of α and β is that by which "A point z is inside".
use Rattle.whole.proofs.Laws.{◌≡◌, List, ℤ, pos, ◌+ℤ◌, ◌*ℤ◌, ◌<ℤ◌, ◌⊕◌, ◌⊗◌, ⊝◌, #, ◌≗◌, law, ◌≺◌, ◌≈◌, never, h, ◌⊞◌, ◌⊠◌, ◌⊡◌, ◌⇒◌, ◌by◌, claim}
use Rattle.plane.specs.Plane.{Pair, Point, det, left, right, Interval, Inside}
use Rattle.plane.specs.Scale.{scale_pair}
use Rattle.plane.proofs.Identities.{det_e, pair_equal}

abbrev pub mix : ℤ → ℤ → Pair → Pair → Pair
mix α β x y = record { z0 = α *ℤ x.z0 +ℤ β *ℤ y.z0; z1 = α *ℤ x.z1 +ℤ β *ℤ y.z1 }

-- det(x, y)·z = det(z, y)·x + det(x, z)·y
pub cramer : (x y z : Pair) → scale_pair (det x y) z ≡ mix (det z y) (det x z) x y
unfolding scale_pair
cramer x y z = pair_equal
    (law 6 (λ a b c d e f. det_e a b c d ⊗ e ≗ det_e e f c d ⊗ a ⊕ det_e a b e f ⊗ c) tt x.z0 x.z1 y.z0 y.z1 z.z0 z.z1)
    (law 6 (λ a b c d e f. det_e a b c d ⊗ f ≗ det_e e f c d ⊗ b ⊕ det_e a b e f ⊗ d) tt x.z0 x.z1 y.z0 y.z1 z.z0 z.z1)

-- the product for z = α·x + β·y is β·α·det(x, y)²
pub mix_inside : {w : List ℤ} (α β : ℤ) → Interval w → pos 0 <ℤ (β *ℤ α) → Inside w (mix α β (left w) (right w))
mix_inside {w} α β p s = record {
  above =
      claim 6 (λ α β x0 x1 y0 y1. det_e x0 x1 y0 y1 ≺ # 0 ⇒ # 0 ≺ β ⊗ α ⇒
      # 0 ≺ det_e x0 x1 (α ⊗ x0 ⊕ β ⊗ y0) (α ⊗ x1 ⊕ β ⊗ y1) ⊗ det_e (α ⊗ x0 ⊕ β ⊗ y0) (α ⊗ x1 ⊕ β ⊗ y1) y0 y1
      by h 0 ⊞ h 1 ⊠ h 1 ⊠ h 2) tt α β (left w).z0 (left w).z1 (right w).z0 (right w).z1 p.below s;
}

-- what is inside an interval is a point
pub inside_point : {w : List ℤ} {z : Pair} → Inside w z → Point z
inside_point {w} {z} k = record {
  not_both =
      claim 6 (λ x0 x1 y0 y1 z0 z1. # 0 ≺ det_e x0 x1 z0 z1 ⊗ det_e z0 z1 y0 y1 ⇒ z0 ≈ # 0 ⇒ z1 ≈ # 0 ⇒ never
      by h 1 ⊞ (⊝ (x1 ⊗ det_e z0 z1 y0 y1)) ⊡ h 2 ⊞ (x0 ⊗ det_e z0 z1 y0 y1) ⊡ h 3) tt
      (left w).z0 (left w).z1 (right w).z0 (right w).z1 z.z0 z.z1 k.above;
}

-- If there is a digit behind whose right end no digit goes on, "some point is in no closed interval" (`uncovered`), and here it is: with x and y the ends of that
-- digit's interval, z = 20001·y − x, which lies behind y and so near it that no end of an interval lies between them.
-- How the argument goes. "Every number lies in −100..100", so every determinant of two ends lies in −20000..20000. Hence det(p, z) = 20001·det(p, y) − det(p, x) has the
-- sign of det(p, y) for every end p with det(p, y) ≠ 0. So an interval that does not hold y does not hold z either; and one that ends at y lies on y's other side.
use Rattle.whole.proofs.Laws.{◌≡◌, sym, subst, false, List, ℕ, ℤ, pos, negsuc, neg_ℤ, ◌-ℤ◌, ◌*ℤ◌, ◌≤ℤ◌, ◌<ℤ◌, le_z_yes, Near, Within, ◌⊕◌, ◌⊖◌, ◌⊗◌, ⊝◌, #, ◌≗◌, law, ◌≦◌, ◌≺◌, ◌≈◌, never, h, sq, ◌⊠◌, ◌⊡◌, linear, quadratic, ◌&◌, ◌⇒◌, ◌from◌, claim, less, same, more, tri, up≤, near_neg, near_mul, near_sub}
use Rattle.plane.proofs.Laws.{Pair, Point, det, left, right, Interval, Closed, three_terms}
use Rattle.digits.proofs.Laws.{System, interval, Small}
use Rattle.cover.specs.Cover.{covered?, Covers}
use Rattle.cover.proofs.CoverTests.{Stops, apart, together, Intervals, gap_found}

-- ---- numbers near 0

at_most : {b : ℕ} {z : ℤ} → Near b z → z ≤ℤ pos b
at_most {z = pos n} k = up≤ k.near
at_most {z = negsuc n} k = le_z_yes tt

at_least : {b : ℕ} {z : ℤ} → Near b z → neg_ℤ (pos b) ≤ℤ z
at_least {b} {z} k = claim 2 (λ b z. ⊝ z ≦ b ⇒ ⊝ b ≦ z from linear) tt (pos b) z (at_most (near_neg k))

-- 20001·e outweighs every number in −20000..20000: it keeps the sign of e
outweighs : (e r : ℤ) → (e ≡ pos 0 → ⊥) → Near 20000 r → pos 0 <ℤ ((pos 20001 *ℤ e -ℤ r) *ℤ e)
outweighs e r f k = elim (tri e (pos 0)) [
  | less l ↦ claim 2 (λ e r. e ≺ # 0 ⇒ ⊝ # 20000 ≦ r ⇒ # 0 ≺ (# 20001 ⊗ e ⊖ r) ⊗ e from quadratic) tt e r l (at_least k)
  | same l ↦ absurd (f l)
  | more l ↦ claim 2 (λ e r. # 0 ≺ e ⇒ r ≦ # 20000 ⇒ # 0 ≺ (# 20001 ⊗ e ⊖ r) ⊗ e from quadratic) tt e r l (at_most k)
]

keeps_sign : {u e r : ℤ} → u ≡ pos 20001 *ℤ e -ℤ r → (e ≡ pos 0 → ⊥) → Near 20000 r → pos 0 <ℤ (u *ℤ e)
keeps_sign {u} {e} {r} q f k = subst (λ (u : ℤ). pos 0 <ℤ (u *ℤ e)) (sym q) (outweighs e r f k)

-- ---- the point just behind an interval's right end

abbrev just_behind : List ℤ → Pair
just_behind v = record { z0 = pos 20001 *ℤ (right v).z0 -ℤ (left v).z0; z1 = pos 20001 *ℤ (right v).z1 -ℤ (left v).z1 }

behind_point : (v : List ℤ) → Interval v → Point (just_behind v)
behind_point v i = record {
  not_both = λ e f.
      claim 4 (λ a b c d. # 20001 ⊗ c ⊖ a ≈ # 0 ⇒ # 20001 ⊗ d ⊖ b ≈ # 0 ⇒ a ⊗ d ⊖ b ⊗ c ≺ # 0 ⇒ never from linear & d ⊡ h 1 & c ⊡ h 2) tt
      (left v).z0 (left v).z1 (right v).z0 (right v).z1 e f i.below;
}

from_behind : (v : List ℤ) (y : Pair) → det (just_behind v) y ≡ pos 20001 *ℤ det (right v) y -ℤ det (left v) y
from_behind v y =
    law 6 (λ a b c d e f. (# 20001 ⊗ c ⊖ a) ⊗ f ⊖ (# 20001 ⊗ d ⊖ b) ⊗ e ≗ # 20001 ⊗ (c ⊗ f ⊖ d ⊗ e) ⊖ (a ⊗ f ⊖ b ⊗ e)) tt
    (left v).z0 (left v).z1 (right v).z0 (right v).z1 y.z0 y.z1

to_behind : (v : List ℤ) (x : Pair) → det x (just_behind v) ≡ pos 20001 *ℤ det x (right v) -ℤ det x (left v)
to_behind v x =
    law 6 (λ a b c d e f. e ⊗ (# 20001 ⊗ d ⊖ b) ⊖ f ⊗ (# 20001 ⊗ c ⊖ a) ≗ # 20001 ⊗ (e ⊗ d ⊖ f ⊗ c) ⊖ (e ⊗ b ⊖ f ⊗ a)) tt
    (left v).z0 (left v).z1 (right v).z0 (right v).z1 x.z0 x.z1

-- ---- an interval w that does not go on behind v's right end does not hold the point just behind it

below_not_zero : (s t : ℤ) → (s *ℤ t) <ℤ pos 0 → t ≡ pos 0 → ⊥
below_not_zero = claim 2 (λ s t. s ⊗ t ≺ # 0 ⇒ t ≈ # 0 ⇒ never from linear & s ⊡ h 2) tt

module _ {v w : List ℤ} (v-small : Within 100 v) (w-small : Within 100 w) (iv : Interval v) (iw : Interval w) where
  -- w = (p, q) and v = (x, y): det(z, q) and det(p, y) have opposite signs. Either y lies apart from w, and det(z, q) has the sign of det(y, q); or w ends at y, and then
  -- det(z, q) = −det(x, q), where det(p, y)·det(x, q) = det(x, y)·det(p, q) > 0
  right_side : Stops v w → (det (just_behind v) (right w) *ℤ det (left w) (right v)) <ℤ pos 0
  right_side (apart l) =
      claim 3 (λ u d e. # 0 ≺ u ⊗ d ⇒ e ⊗ d ≺ # 0 ⇒ u ⊗ e ≺ # 0 from linear & h 1 ⊠ h 2 & h 0 ⊠ sq d) tt
      (det (just_behind v) (right w)) (det (right v) (right w)) (det (left w) (right v))
      (keeps_sign (from_behind v (right w)) (below_not_zero (det (left w) (right v)) (det (right v) (right w)) l)
      (near_sub (near_mul v-small.n0 w-small.n3) (near_mul v-small.n1 w-small.n2)))
      l
  right_side (together l) =
      claim 7 (λ a b e r s d u. a ⊗ b ≈ e ⊗ r ⊕ s ⊗ d ⇒ d ≈ # 0 ⇒ u ≈ # 20001 ⊗ d ⊖ r ⇒ a ≺ # 0 ⇒ b ≺ # 0 ⇒ u ⊗ e ≺ # 0
      from linear & s ⊡ h 2 & e ⊡ h 2 & e ⊡ h 3 & h 4 ⊠ h 5) tt
      (det (left v) (right v)) (det (left w) (right w)) (det (left w) (right v)) (det (left v) (right w)) (det (left v) (left w)) (det (right v) (right w))
      (det (just_behind v) (right w)) (three_terms (left v) (right v) (left w) (right w)) l (from_behind v (right w)) iv.below iw.below

  -- det(p, z) has the sign of det(p, y)
  left_side : (det (left w) (right v) ≡ pos 0 → ⊥) → pos 0 <ℤ (det (left w) (just_behind v) *ℤ det (left w) (right v))
  left_side f = keeps_sign (to_behind v (left w)) f (near_sub (near_mul w-small.n0 v-small.n1) (near_mul w-small.n1 v-small.n0))

  -- so det(p, z)·det(z, q) < 0
  not_held : Stops v w → Closed w (just_behind v) → ⊥
  not_held s c =
      let u = det (just_behind v) (right w) in let t = det (left w) (just_behind v) in let e = det (left w) (right v) in
      let r = right_side s in
      claim 3 (λ t u e. # 0 ≺ t ⊗ e ⇒ u ⊗ e ≺ # 0 ⇒ # 0 ≦ t ⊗ u ⇒ never from linear & h 1 ⊠ h 2 & h 3 ⊠ sq e) tt t u e
      (left_side (below_not_zero u e r)) r c.not_below

pub uncovered : (s : System) → Small s → Intervals s → covered? s ≡ false → (z : Pair) × Point z × (Covers s z → ⊥)
uncovered s small intervals e =
    let g = gap_found s e in
    let v = interval s g.last in (
      just_behind v,
      behind_point v (intervals g.last g.below),
      λ c. not_held (small.small g.last g.below) (small.small c.0 c.1) (intervals g.last g.below) (intervals c.0 c.1) (g.stop c.0 c.1) c.2,
    )

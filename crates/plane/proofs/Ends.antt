-- An interval may be written with other multiples of its ends: if each end is multiplied, by two numbers whose product is above 0, then the same points are inside, the
-- same are in the closed interval, and it still is an interval. So one end may be multiplied by a number above 0, and both may change their sign.
-- The argument: a factor k of the left end and l of the right end comes out of the product that decides as k·l, which does not change its sign.
use Rattle.whole.proofs.Laws.{◌≡◌, sym, ◌∙◌, List, ℤ, pos, ◌*ℤ◌, ◌⊗◌, ◌≗◌, law}
use Rattle.plane.specs.Plane.{Pair, det, left, right, image_of, Interval, Inside, Closed}
use Rattle.plane.specs.Scale.{scale_pair, scale_of, SameSign, SameEnds}
use Rattle.plane.proofs.SameSign.{grown, sign_back, square_above}
use Rattle.plane.proofs.Identities.{det_e, det_scale, apply_scale}
use Rattle.plane.proofs.Moves.{between, inside_sign, closed_sign}

-- ---- which intervals have the same ends

-- the images of one under a matrix and under a multiple of it
pub ends_scaled : (k : ℤ) (m w : List ℤ) → (k ≡ pos 0 → ⊥) → SameEnds (image_of m w) (image_of (scale_of k m) w)
unfolding image_of
ends_scaled k m w f = record {
  k = k;
  l = k;
  together = square_above k f;
  lefts = apply_scale k m (left w);
  rights = apply_scale k m (right w);
}

-- ---- what they have in common

outside : (k l : ℤ) (x y z : Pair) → k *ℤ l *ℤ (det x z *ℤ det z y) ≡ det (scale_pair k x) z *ℤ det z (scale_pair l y)
unfolding scale_pair
outside k l x y z = law 8 (λ k l a b c d e f. k ⊗ l ⊗ (det_e a b e f ⊗ det_e e f c d) ≗ det_e (k ⊗ a) (k ⊗ b) e f ⊗ det_e e f (l ⊗ c) (l ⊗ d)) tt
    k l x.z0 x.z1 y.z0 y.z1 z.z0 z.z1

pub between_ends : {w v : List ℤ} → SameEnds w v → (z : Pair) → SameSign (between w z) (between v z)
between_ends {w} {v} s z = grown (s.k *ℤ s.l) s.together
    (outside s.k s.l (left w) (right w) z ∙ sym (λ i. det (s.lefts i) z *ℤ det z (s.rights i)))

pub inside_ends : {w v : List ℤ} {z : Pair} → SameEnds w v → Inside w z → Inside v z
inside_ends {z = z} s = inside_sign (between_ends s z)

pub inside_ends_back : {w v : List ℤ} {z : Pair} → SameEnds w v → Inside v z → Inside w z
inside_ends_back {z = z} s = inside_sign (sign_back (between_ends s z))

pub closed_ends : {w v : List ℤ} {z : Pair} → SameEnds w v → Closed w z → Closed v z
closed_ends {z = z} s = closed_sign (between_ends s z)

pub closed_ends_back : {w v : List ℤ} {z : Pair} → SameEnds w v → Closed v z → Closed w z
closed_ends_back {z = z} s = closed_sign (sign_back (between_ends s z))

interval_sign : {w v : List ℤ} → SameEnds w v → SameSign (det (left w) (right w)) (det (left v) (right v))
interval_sign {w} s = grown (s.k *ℤ s.l) s.together (sym (det_scale s.k s.l (left w) (right w)) ∙ sym (λ i. det (s.lefts i) (s.rights i)))

pub interval_ends : {w v : List ℤ} → SameEnds w v → Interval w → Interval v
interval_ends s i = record { below = (interval_sign s).below i.below }

pub interval_ends_back : {w v : List ℤ} → SameEnds w v → Interval v → Interval w
interval_ends_back s i = record { below = (sign_back (interval_sign s)).below i.below }

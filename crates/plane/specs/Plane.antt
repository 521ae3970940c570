-- Document 01, "Points, matrices, intervals", in its own words and order. A matrix [a, b, c, d] and an interval x0 x1 y0 y1 are lists of four whole numbers.
use Rattle.std.specs.Prelude.{◌≡◌, List, [], ◌∷◌, ℤ, pos, neg_ℤ, ◌+ℤ◌, ◌-ℤ◌, ◌*ℤ◌, ◌≤ℤ◌, ◌<ℤ◌}
use Rattle.whole.specs.Range.{at}
use Rattle.whole.specs.Divisor.{gcd4, divided}

-- "A point is a pair (z0, z1) of whole numbers, not both 0, standing for z0/z1; 1/0 is infinity."
pub record Pair : Type 0 where
  pub z0 : ℤ
  pub z1 : ℤ

pub record Point (z : Pair) : Type 0 where
  pub not_both : z.z0 ≡ pos 0 → z.z1 ≡ pos 0 → ⊥

-- "Multiples are the same point."
pub record SamePoint (x y : Pair) : Type 0 where
  pub k : ℤ
  pub l : ℤ
  pub k_not_0 : k ≡ pos 0 → ⊥
  pub l_not_0 : l ≡ pos 0 → ⊥
  pub same0 : k *ℤ x.z0 ≡ l *ℤ y.z0
  pub same1 : k *ℤ x.z1 ≡ l *ℤ y.z1

-- "det(x, y) = x0·y1 − x1·y0."
abbrev pub det : Pair → Pair → ℤ
det x y = x.z0 *ℤ y.z1 -ℤ x.z1 *ℤ y.z0

-- "A matrix [a, b, c, d] sends (z0, z1) to (a·z0 + b·z1, c·z0 + d·z1)."
unfoldable pub apply : List ℤ → Pair → Pair
apply m z = record { z0 = at m 0 *ℤ z.z0 +ℤ at m 1 *ℤ z.z1; z1 = at m 2 *ℤ z.z0 +ℤ at m 3 *ℤ z.z1 }

-- "Its determinant is ad − bc."
unfoldable pub determinant_of : List ℤ → ℤ
determinant_of m = at m 0 *ℤ at m 3 -ℤ at m 1 *ℤ at m 2

-- "Its pseudoinverse is [d, −b, −c, a]."
unfoldable pub pseudoinverse_of : List ℤ → List ℤ
pseudoinverse_of m = at m 3 ∷ neg_ℤ (at m 1) ∷ neg_ℤ (at m 2) ∷ at m 0 ∷ []

-- the product m·n, which sends z where m sends what n sends it to
unfoldable pub multiply_of : List ℤ → List ℤ → List ℤ
multiply_of m n =
    (at m 0 *ℤ at n 0 +ℤ at m 1 *ℤ at n 2) ∷
    (at m 0 *ℤ at n 1 +ℤ at m 1 *ℤ at n 3) ∷
    (at m 2 *ℤ at n 0 +ℤ at m 3 *ℤ at n 2) ∷
    (at m 2 *ℤ at n 1 +ℤ at m 3 *ℤ at n 3) ∷ []

-- "An interval has a left end x and a right end y with det(x, y) < 0."
abbrev pub left : List ℤ → Pair
left w = record { z0 = at w 0; z1 = at w 1 }

abbrev pub right : List ℤ → Pair
right w = record { z0 = at w 2; z1 = at w 3 }

pub record Interval (w : List ℤ) : Type 0 where
  pub below : det (left w) (right w) <ℤ pos 0

-- "A point z is inside exactly if det(x, z)·det(z, y) > 0, and in the closed interval exactly if that product is ≥ 0."
pub record Inside (w : List ℤ) (z : Pair) : Type 0 where
  pub above : pos 0 <ℤ (det (left w) z *ℤ det z (right w))

pub record Closed (w : List ℤ) (z : Pair) : Type 0 where
  pub not_below : pos 0 ≤ℤ (det (left w) z *ℤ det z (right w))

-- X·W: the interval whose ends are the images of W's ends
unfoldable pub image_of : List ℤ → List ℤ → List ℤ
image_of m w = (apply m (left w)).z0 ∷ (apply m (left w)).z1 ∷ (apply m (right w)).z0 ∷ (apply m (right w)).z1 ∷ []

-- "To cancel a matrix, divide it by the greatest common divisor of the four entries. Signs stay."
unfoldable pub cancel_of : List ℤ → List ℤ
cancel_of m = divided m (gcd4 m)

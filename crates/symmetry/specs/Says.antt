-- What turning and reflecting say of points, and when two rows are the same digit: what the theorems of this crate, and of `digits` on system B, say.
use Rattle.std.specs.Prelude.{◌≡◌, List, ◌↔◌, ℤ}
use Rattle.plane.specs.Plane.{Pair, SamePoint, Inside, left, right, apply, pseudoinverse_of}
use Rattle.symmetry.specs.Row.{transformation_in, interval_in}
use Rattle.symmetry.specs.Symmetry.{rotation, mirror, turned, reflected}

-- "F of a+2 is R F_a R inverse": at z it is R(F_a(R inverse of z)). Its interval is R of the interval: R(z) is inside exactly if z was
pub record TurnedSays (r : List ℤ) : Type 0 where
  pub transformation : (z : Pair) →
      SamePoint (apply (transformation_in (turned r)) z) (apply rotation (apply (transformation_in r) (apply (pseudoinverse_of rotation) z)))
  pub inside : (z : Pair) → Inside (interval_in r) z ↔ Inside (interval_in (turned r)) (apply rotation z)

-- "F of 7−a at x is −F_a(−x)". Its interval is that of all −z
pub record ReflectedSays (r : List ℤ) : Type 0 where
  pub transformation : (z : Pair) → apply (transformation_in (reflected r)) z ≡ apply mirror (apply (transformation_in r) (apply mirror z))
  pub inside : (z : Pair) → Inside (interval_in r) z ↔ Inside (interval_in (reflected r)) (apply mirror z)

-- two rows of one and the same digit: the same transformation, number for number, and the same ends, as points. Of rows with det W < 0 the same points are then
-- inside (`digit_inside`, proofs/SameDigits.antt)
pub record SameDigit (r s : List ℤ) : Type 0 where
  pub transformation : transformation_in r ≡ transformation_in s
  pub lefts : SamePoint (left (interval_in r)) (left (interval_in s))
  pub rights : SamePoint (right (interval_in r)) (right (interval_in s))

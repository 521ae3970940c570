-- The dot product of two pairs, taken for arrows from (0, 0): of the angle between them it says whether it is below a right angle, and of a pair and itself
-- the squared length.
use Rattle.std.specs.Prelude.{ℤ, ◌+ℤ◌, ◌*ℤ◌}
use Rattle.plane.specs.Plane.{Pair}

-- x·y = x0·y0 + x1·y1
abbrev pub dot : Pair → Pair → ℤ
dot x y = x.z0 *ℤ y.z0 +ℤ x.z1 *ℤ y.z1

-- Document 01 on inclusion: the sentence that says what it is, and the test that decides it. The theorem `included_says` (proofs/Inclusion.antt) proves
-- that they agree.
use Rattle.std.specs.Prelude.{Bool, not, ◌&&◌, ◌||◌, List, [], ◌∷◌, eqb, ℤ, pos, nat_abs, ◌*ℤ◌}
use Rattle.std.specs.Int.Signed.{le_z}
use Rattle.plane.specs.Plane.{Pair, Point, det, left, right, Inside}

-- "I is included in J exactly if every point inside I is inside J."
pub record Included (i j : List ℤ) : Type 0 where
  pub every : (z : Pair) → Point z → Inside i z → Inside j z

-- z is in the closed interval w
unfoldable pub closed? : List ℤ → Pair → Bool
closed? w z = le_z (pos 0) (det (left w) z *ℤ det z (right w))

-- x and y are one and the same point
unfoldable pub same? : Pair → Pair → Bool
same? x y = eqb (nat_abs (det x y)) 0

-- "For whole-number ends this is: both ends of I are in closed J, and either I and J have one and the same left end and one and the same right end, as
-- points, or some end of J is not in closed I."
unfoldable pub included? : List ℤ → List ℤ → Bool
included? i j =
    closed? j (left i) && closed? j (right i) &&
    (same? (left i) (left j) && same? (right i) (right j) || not (closed? i (left j)) || not (closed? i (right j)))

-- the two determinants of an end (x0, x1) of I with the ends of J = (u, v): det(x, u) and det(x, v). The whole test depends on those of I's two ends.
unfoldable pub sides_of : ℤ → ℤ → List ℤ → List ℤ
sides_of x0 x1 j = det (record { z0 = x0; z1 = x1 }) (left j) ∷ det (record { z0 = x0; z1 = x1 }) (right j) ∷ []

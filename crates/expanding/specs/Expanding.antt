-- "W_a must be included in the set where the inverse of F_a expands", as it stands, and the test that refusal 18 makes. The theorem `expands_says`
-- (proofs/ExpandsSays.antt) proves that the test says exactly this, and hands over a point where not.
use Rattle.std.specs.Prelude.{Bool, ◌&&◌, List, [], ◌∷◌, ℕ, ◌<◌, ℤ, pos, ◌+ℤ◌, ◌-ℤ◌, ◌*ℤ◌, ◌≤ℤ◌, ◌<ℤ◌}
use Rattle.std.specs.Int.Signed.{le_z, lt_z}
use Rattle.whole.specs.Range.{at, Within}
use Rattle.whole.specs.First.{every_below?}
use Rattle.plane.specs.Plane.{Pair, Point, left, right, apply, determinant_of, pseudoinverse_of, Inside}
use Rattle.plane.specs.Dot.{dot}
use Rattle.digits.specs.System.{System, transformation, interval}

-- z0² + z1²
abbrev pub squared_length : Pair → ℤ
squared_length z = dot z z

-- the two sides of "det F·(z0² + z1²) is greater than the squared length of pseudoinverse(F)·z"; what the first is over the second is the rate at z
abbrev pub stretched : List ℤ → Pair → ℤ
stretched f z = determinant_of f *ℤ squared_length z

abbrev pub sent : List ℤ → Pair → ℤ
sent f z = squared_length (apply (pseudoinverse_of f) z)

-- a row expands: "at every point z inside W_a, det F·(z0² + z1²) is greater than the squared length of pseudoinverse(F)·z"
pub record Expands (f w : List ℤ) : Type 0 where
  pub every : (z : Pair) → Point z → Inside w z → sent f z <ℤ stretched f z

-- "a row not expanding": here is a point inside W_a at which it is not greater
pub record FailsToExpand (f w : List ℤ) : Type 0 where
  pub z : Pair
  pub point : Point z
  pub inside : Inside w z
  pub not_greater : stretched f z ≤ℤ sent f z

-- of a system: every row expands, and some row doesn't
abbrev pub AllExpand : System → Type 0
AllExpand s = (a : ℕ) → a < s.count → Expands (transformation s a) (interval s a)

abbrev pub OneFails : System → Type 0
OneFails s = (a : ℕ) × (a < s.count) × FailsToExpand (transformation s a) (interval s a)

-- ---- the test

-- what the one is greater by, as a form: z·(q·z) = det F·(z0² + z1²) − (squared length of pseudoinverse(F)·z) for this symmetric matrix q
unfoldable pub form_of : List ℤ → List ℤ
form_of f =
    (determinant_of f -ℤ (at f 2 *ℤ at f 2 +ℤ at f 3 *ℤ at f 3)) ∷
    (at f 0 *ℤ at f 2 +ℤ at f 1 *ℤ at f 3) ∷
    (at f 2 *ℤ at f 0 +ℤ at f 3 *ℤ at f 1) ∷
    (determinant_of f -ℤ (at f 0 *ℤ at f 0 +ℤ at f 1 *ℤ at f 1)) ∷ []

-- x·(q·y); of z and z it is the growth at z, and at α·x + β·y the growth is α²·(that of x and x) + 2·α·β·(that of x and y) + β²·(that of y and y)
abbrev pub growth_of : List ℤ → Pair → Pair → ℤ
growth_of f x y = dot x (apply (form_of f) y)

-- none of three numbers is below 0, and not all are 0
abbrev pub grows? : ℤ → ℤ → ℤ → Bool
grows? p b q = le_z (pos 0) p && le_z (pos 0) b && le_z (pos 0) q && lt_z (pos 0) (p +ℤ b +ℤ q)

-- the growth at the two ends of W, and that of the two mixed
unfoldable pub expands? : List ℤ → List ℤ → Bool
expands? f w = grows? (growth_of f (left w) (left w)) (growth_of f (left w) (right w)) (growth_of f (right w) (right w))

abbrev pub all_expand? : System → Bool
all_expand? s = every_below? (λ a. expands? (transformation s a) (interval s a)) s.count

-- ---- for the functions

-- "every number lies in −100..100", so that no number of the test leaves 64 bits
pub record SmallRows (s : System) : Type 0 where
  pub numbers_f : (a : ℕ) → a < s.count → Within 100 (transformation s a)
  pub numbers_w : (a : ℕ) → a < s.count → Within 100 (interval s a)

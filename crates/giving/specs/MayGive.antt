-- "A digit c may be given out exactly if the four images of the pairs of interval ends, written in the two ends of U_c, have coefficients all ≥ 0 or all
-- ≤ 0, and no image is (0, 0); the smallest such c." (document 02, T-14)
use Rattle.std.specs.Prelude.{Bool, true, false, not, ◌&&◌, ◌||◌, List, [], ◌∷◌, ◌++◌, ℕ, eqb, ℤ, pos, nat_abs}
use Rattle.std.proofs.Math.Option.{Option}
use Rattle.std.specs.Int.Signed.{le_z}
use Rattle.whole.specs.First.{first}
use Rattle.whole.specs.Range.{at}
use Rattle.plane.specs.Plane.{Pair, det, left, right, Point, Closed}
use Rattle.bilinear.specs.Types.{Form}
use Rattle.bilinear.specs.Form.{apply_two}
use Rattle.digits.specs.System.{System, interval}

-- "the four images of the pairs of interval ends": of the intervals v and w
unfoldable pub images_of : Form → List ℤ → List ℤ → List Pair
images_of m v w =
    apply_two m (left v) (left w) ∷ apply_two m (left v) (right w) ∷ apply_two m (right v) (left w) ∷ apply_two m (right v) (right w) ∷ []

-- "written in the two ends of U_c": det(l, r)·z = det(z, r)·l + det(l, z)·r, where l and r are the ends of u (`in_the_ends`, proofs/Mixed.antt). These two
-- are the coefficients of z times det(l, r), which is below 0 and the same for all.
abbrev pub coefficients : List ℤ → Pair → List ℤ
coefficients u z = det z (right u) ∷ det (left u) z ∷ []

unfoldable pub all_coefficients : List ℤ → List Pair → List ℤ
all_coefficients u [] = []
all_coefficients u (z ∷ zs) = coefficients u z ++ all_coefficients u zs

-- "all ≥ 0", "all ≤ 0"
abbrev pub none_below? : List ℤ → Bool
none_below? [] = true
none_below? (z ∷ zs) = le_z (pos 0) z && none_below? zs

abbrev pub none_above? : List ℤ → Bool
none_above? [] = true
none_above? (z ∷ zs) = le_z z (pos 0) && none_above? zs

abbrev pub one_sided? : List ℤ → Bool
one_sided? zs = none_below? zs || none_above? zs

-- "no image is (0, 0)"
abbrev pub nought? : Pair → Bool
nought? z = eqb (nat_abs z.z0) 0 && eqb (nat_abs z.z1) 0

abbrev pub some_nought? : List Pair → Bool
some_nought? [] = false
some_nought? (z ∷ zs) = nought? z || some_nought? zs

-- the test of one digit, whose interval is u
unfoldable pub may_give? : List Pair → List ℤ → Bool
may_give? images u = one_sided? (all_coefficients u images) && not (some_nought? images)

-- "the smallest such c"
unfoldable pub giving_of : System → List Pair → Option ℕ
giving_of output images = first (λ c. may_give? images (interval output c)) output.count 0

-- ---- in other words (the test implies it, and the test decides: docs/DECISIONS.md): every point of the first closed interval and every point of the
-- second are sent into the closed interval of the digit, where their image is a point

pub record SentInto (m : Form) (v w u : List ℤ) : Type 0 where
  pub lies_in : (x y : Pair) → Point x → Closed v x → Point y → Closed w y → Point (apply_two m x y) → Closed u (apply_two m x y)

-- ---- how the code keeps four images: as eight numbers, the first numbers of all four and then the second ones

abbrev column : Form → ℕ → Pair
column m i = record { z0 = at m.numerator i; z1 = at m.denominator i }

abbrev pub columns_of_form : Form → List Pair
columns_of_form m = column m 0 ∷ column m 1 ∷ column m 2 ∷ column m 3 ∷ []

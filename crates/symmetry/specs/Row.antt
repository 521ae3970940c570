-- A digit as "one row of eight numbers: F as a b c d, then W as x0 x1 y0 y1".
use Rattle.std.specs.Prelude.{List, [], ◌∷◌, ℕ, ◌+◌, ℤ}
use Rattle.whole.specs.Range.{at, Within}
use Rattle.plane.specs.Plane.{Interval}
use Rattle.plane.specs.Scale.{DetAbove}

abbrev pub four_in : List ℤ → ℕ → List ℤ
four_in r p = at r p ∷ at r (p + 1) ∷ at r (p + 2) ∷ at r (p + 3) ∷ []

abbrev pub transformation_in : List ℤ → List ℤ
transformation_in r = four_in r 0

abbrev pub interval_in : List ℤ → List ℤ
interval_in r = four_in r 4

abbrev pub joined_row : List ℤ → List ℤ → List ℤ
joined_row f w = at f 0 ∷ at f 1 ∷ at f 2 ∷ at f 3 ∷ at w 0 ∷ at w 1 ∷ at w 2 ∷ at w 3 ∷ []

-- ---- what is asked of a row

-- to reflect it: "every number lies in −100..100"
pub record SmallRow (r : List ℤ) : Type 0 where
  pub numbers_f : Within 100 (transformation_in r)
  pub numbers_w : Within 100 (interval_in r)

-- to turn it, besides: "det F > 0, det W < 0", so that neither F nor an end is 0, which nothing cancels
pub record Turnable (r : List ℤ) : Type 0 where
  pub small : SmallRow r
  pub above : DetAbove (transformation_in r)
  pub interval : Interval (interval_in r)

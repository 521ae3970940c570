-- Document 01's sentences on an admitted system, as they stand, and not how they are tested: "Admitted if every number lies in −100..100, det F > 0, det
-- W < 0, the four numbers of F have greatest common divisor 1, so have the two numbers of each end, and every point lies in the closed interval of some
-- digit." And document 02's, on every one of them: "W_a must be included in the set where the inverse of F_a expands".
use Rattle.std.specs.Prelude.{◌≡◌, List, ◌⊎◌, ℕ, ◌≤◌, ◌<◌, ℤ, pos, nat_abs, ◌≤ℤ◌, ◌<ℤ◌}
use Rattle.std.specs.Int.{◌∣◌}
use Rattle.whole.specs.Range.{at, Within}
use Rattle.whole.specs.Divisor.{Divides4}
use Rattle.plane.specs.Plane.{Pair, Point, determinant_of, Interval}
use Rattle.digits.specs.System.{System, transformation, interval}
use Rattle.cover.specs.Cover.{Covers}
use Rattle.expanding.specs.Expanding.{AllExpand, FailsToExpand}
use Rattle.admission.specs.Types.{Admission, Ok, Err, WrongCount, OutOfRange, NotAbove, NotBelow, NotLowest, Uncovered, NotExpanding}

-- "every number lies in −100..100"
pub record InRange (f w : List ℤ) : Type 0 where
  pub numbers_f : Within 100 f
  pub numbers_w : Within 100 w

-- "the four numbers of F have greatest common divisor 1, so have the two numbers of each end": whatever divides them all is 1
pub record Lowest (f w : List ℤ) : Type 0 where
  pub lowest_f : (k : ℕ) → Divides4 k f → k ≡ 1
  pub lowest_left : (k : ℕ) → k ∣ nat_abs (at w 0) → k ∣ nat_abs (at w 1) → k ≡ 1
  pub lowest_right : (k : ℕ) → k ∣ nat_abs (at w 2) → k ∣ nat_abs (at w 3) → k ≡ 1

-- what is asked of one row
pub record Digit (f w : List ℤ) : Type 0 where
  pub in_range : InRange f w
  pub above : pos 0 <ℤ determinant_of f
  pub interval : Interval w
  pub lowest : Lowest f w

-- of row a, of the rows before row n, and of all rows of a system
abbrev pub DigitAt : System → ℕ → Type 0
DigitAt s a = Digit (transformation s a) (interval s a)

abbrev pub DigitsBelow : System → ℕ → Type 0
DigitsBelow s n = (a : ℕ) → a < n → DigitAt s a

abbrev pub Digits : System → Type 0
Digits s = DigitsBelow s s.count

-- "every point lies in the closed interval of some digit"
abbrev pub Full : System → Type 0
Full s = (z : Pair) → Point z → Covers s z

pub record Admissible (s : System) : Type 0 where
  pub some_digits : 1 ≤ s.count
  pub few_digits : s.count ≤ 16
  pub digits : Digits s
  pub cover : Full s
  -- "W_a must be included in the set where the inverse of F_a expands"
  pub expand : AllExpand s

-- ---- when each answer is given

-- Of one row, "6, 7, 8, 9", the first that applies: "6: a number is out of its range. 7: det F ≤ 0. 8: det W ≥ 0. 9: F or an end not in lowest terms."
-- The other refusals are no answers about a row.
abbrev pub RowCase : List ℤ → List ℤ → Admission → Type 0
RowCase f w (Ok u) = Digit f w
RowCase f w (Err OutOfRange) = InRange f w → ⊥
RowCase f w (Err NotAbove) = InRange f w × (determinant_of f ≤ℤ pos 0)
RowCase f w (Err NotBelow) = InRange f w × (pos 0 <ℤ determinant_of f) × (pos 0 ≤ℤ determinant_of w)
RowCase f w (Err NotLowest) = InRange f w × (pos 0 <ℤ determinant_of f) × Interval w × (Lowest f w → ⊥)
RowCase f w v = ⊥

-- "row by row": the count is right, v is the answer about some row, and every row before it is a digit
pub record FirstRow (s : System) (v : Admission) : Type 0 where
  pub some_digits : 1 ≤ s.count
  pub few_digits : s.count ≤ 16
  pub row : ℕ
  pub below : row < s.count
  pub before : DigitsBelow s row
  pub says : RowCase (transformation s row) (interval s row) v

-- "10: some point is in no closed interval", where the count is right and every row is a digit
pub record Gap (s : System) : Type 0 where
  pub some_digits : 1 ≤ s.count
  pub few_digits : s.count ≤ 16
  pub digits : Digits s
  pub z : Pair
  pub point : Point z
  pub in_none : Covers s z → ⊥

-- "18, a row not expanding, directly after 10": the count is right, every row is a digit, no point is left out, and here is a row with a point that fails
pub record RowNotExpanding (s : System) : Type 0 where
  pub some_digits : 1 ≤ s.count
  pub few_digits : s.count ≤ 16
  pub digits : Digits s
  pub cover : Full s
  pub row : ℕ
  pub below : row < s.count
  pub fails : FailsToExpand (transformation s row) (interval s row)

-- Of a whole system: "3: a system has 0 or more than 16 digits", "row by row 6, 7, 8, 9; then 10", then 18, and admitted.
abbrev pub SystemCase : System → Admission → Type 0
SystemCase s (Ok u) = Admissible s
SystemCase s (Err WrongCount) = (s.count ≡ 0) ⊎ (16 < s.count)
SystemCase s (Err OutOfRange) = FirstRow s (Err OutOfRange)
SystemCase s (Err NotAbove) = FirstRow s (Err NotAbove)
SystemCase s (Err NotBelow) = FirstRow s (Err NotBelow)
SystemCase s (Err NotLowest) = FirstRow s (Err NotLowest)
SystemCase s (Err Uncovered) = Gap s
SystemCase s (Err NotExpanding) = RowNotExpanding s
SystemCase s v = ⊥

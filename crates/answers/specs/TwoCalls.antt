-- What the C functions for two words can answer, and what stands in the lent numbers behind a call (document 02, T-14). Where a call answers no 0, and a run no
-- end, they are as they were, the three counts of a refused run apart.
use Rattle.std.specs.Prelude.{◌≡◌, List, [], ◌∷◌, ◌⊎◌, ℕ, ◌≤◌, ◌<◌, length, get_or, drop, ℤ, pos}
use Rattle.whole.specs.Range.{at, Within}
use Rattle.judging.specs.Refusal.{RefusalNumber}
use Rattle.numbers.specs.Numbers.{wrong_length, Wrote}
use Rattle.binary.specs.TwoRanges.{TwoEnd}
use Rattle.two_call.specs.TwoCall.{AfterTwo, after_two}
use Rattle.answers.specs.Numbers.{OrLength}
use Rattle.answers.specs.Calls.{HeldInRange}

-- ---- a state's eleven numbers: four entries above and four below, within ±most; of each word −1 for nothing held, or a digit that is below the count; and
-- 0 for x's turn or 1 for y's

pub record TwoStateInRange (most count : ℕ) (l : List ℤ) : Type 0 where
  pub eleven : length l ≡ 11
  pub over : Within most l
  pub under : Within most (drop 4 l)
  pub held_x : HeldInRange count (at l 8)
  pub held_y : HeldInRange count (at l 9)
  pub turn : (at l 10 ≡ pos 0) ⊎ (at l 10 ≡ pos 1)

-- sled_open_sum, sled_open_difference, sled_open_product: 0, or 40; the eight numbers are −1, 0 or 1, nothing is held, and it is x's turn
pub record OpenTwoInRange (old : List ℤ) (w : Wrote) : Type 0 where
  pub number : OrLength (λ n. n ≡ 0) w.number
  pub state : w.number ≡ 0 → TwoStateInRange 1 0 w.numbers
  pub x_first : w.number ≡ 0 → at w.numbers 10 ≡ pos 0
  pub untouched : 1 ≤ w.number → w.numbers ≡ old

-- ---- sled_run_two: 0, 20, 21, 22, or 3, 6 to 10, 12, 18, or 40. (No list is lent, so there is no 15.)

-- three counts: bytes taken of x, bytes taken of y, digits written
pub record TwoCountsInRange (xs ys output counts : List ℕ) : Type 0 where
  pub three : length counts ≡ 3
  pub taken_x : get_or counts 0 0 ≤ length xs
  pub taken_y : get_or counts 1 0 ≤ length ys
  pub written : get_or counts 2 0 ≤ length output

-- of two systems with so many digits, the two words, and what was there before: the state's numbers, the output, the counts
pub record RunTwoInRange (input-count output-count : ℕ) (xs ys : List ℕ) (old : List ℤ) (output counts : List ℕ) (r : AfterTwo) : Type 0 where
  pub number : OrLength (λ n. TwoEnd n ⊎ RefusalNumber n) r.number
  pub room : length r.output ≡ length output
  -- an end: the counts, the digits, the state
  pub three : TwoEnd r.number → TwoCountsInRange xs ys output r.counts
  pub digits : TwoEnd r.number → (p : ℕ) → p < get_or r.counts 2 0 → get_or r.output p 0 < output-count
  pub state : TwoEnd r.number → TwoStateInRange 1000000000 input-count r.state
  -- a refusal: counts 0, 0 and 0, and the rest as it was; a wrong length: all as it was
  pub refused : RefusalNumber r.number → r ≡ after_two r.number old output (0 ∷ 0 ∷ 0 ∷ [])
  pub untouched : r.number ≡ wrong_length → r ≡ after_two wrong_length old output counts

-- Ranges of whole numbers. A list of four whole numbers is a matrix, or the two ends of an interval.
--
-- `at m 2` is the third number of m (0 where the list has none); `Near 100 z` says −100 ≤ z ≤ 100; `Within 100 m` says it of the four numbers of m, and
-- `within? 100 m` is the test of it. Both are records, so that a proof which has one need not be told its bound and its number. Their laws are in
-- proofs/Range.antt.
use Rattle.std.specs.Prelude.{Bool, ◌&&◌, List, ℕ, ◌≤◌, leb, get_or, ℤ, pos, nat_abs}

-- the number at a place of a list
abbrev pub at : List ℤ → ℕ → ℤ
at m i = get_or m i (pos 0)

-- z lies in −b..b
pub record Near (b : ℕ) (z : ℤ) : Type 0 where
  pub near : nat_abs z ≤ b

-- the four numbers of m lie in −b..b
pub record Within (b : ℕ) (m : List ℤ) : Type 0 where
  pub n0 : Near b (at m 0)
  pub n1 : Near b (at m 1)
  pub n2 : Near b (at m 2)
  pub n3 : Near b (at m 3)

unfoldable pub within? : ℕ → List ℤ → Bool
within? b m = leb (nat_abs (at m 0)) b && leb (nat_abs (at m 1)) b && leb (nat_abs (at m 2)) b && leb (nat_abs (at m 3)) b

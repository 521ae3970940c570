-- A digit system, as those who judge it and run over it know it: how many digits it has, and "Digit a has a transformation F and an interval W", F as
-- a b c d and W as x0 x1 y0 y1. Where these numbers stand in memory is not known here (specs/Orders.antt).
use Rattle.std.specs.Prelude.{◌≡◌, List, ℕ, ◌≤◌, ◌<◌, ℤ}
use Rattle.whole.specs.Range.{Within}

pub record System : Type 0 where
  pub count : ℕ
  pub transformation : ℕ → List ℤ
  pub interval : ℕ → List ℤ

abbrev pub transformation : System → ℕ → List ℤ
transformation s a = s.transformation a

abbrev pub interval : System → ℕ → List ℤ
interval s a = s.interval a

-- the numbers of its intervals lie within ±100, so that no determinant of theirs leaves 64 bits
pub record Small (s : System) : Type 0 where
  pub small : (a : ℕ) → a < s.count → Within 100 (interval s a)

-- the same digits, if a system can have as many, wherever their numbers stand and whatever stands beside them
pub record SameDigits (s t : System) : Type 0 where
  pub count : s.count ≡ t.count
  pub transformations : s.count ≤ 16 → (a : ℕ) → a < s.count → transformation s a ≡ transformation t a
  pub intervals : s.count ≤ 16 → (a : ℕ) → a < s.count → interval s a ≡ interval t a

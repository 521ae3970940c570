-- "Some U_b includes X·W_held: let b be the smallest": the smallest digit of a system whose interval includes an image.
use Rattle.std.specs.Prelude.{Bool, List, ℕ, ◌<◌, ℤ}
use Rattle.std.proofs.Math.Option.{Option, none, some}
use Rattle.whole.specs.First.{first}
use Rattle.whole.specs.Range.{Within}
use Rattle.plane.specs.Plane.{Interval}
use Rattle.inclusion.specs.Inclusion.{included?}
use Rattle.digits.specs.System.{System, interval}
use Rattle.fitting.specs.Types.{Fitting, Some, None}

-- what the search relies on: intervals, of numbers so small that no determinant of theirs leaves 64 bits
pub record Searchable (s : System) : Type 0 where
  pub small : (a : ℕ) → a < s.count → Within 100 (interval s a)
  pub intervals : (a : ℕ) → a < s.count → Interval (interval s a)

abbrev pub fits? : System → List ℤ → ℕ → Bool
fits? output image b = included? image (interval output b)

unfoldable pub fitting_of : System → List ℤ → Option ℕ
fitting_of output image = first (fits? output image) output.count 0

-- what `Fitting` stands for, and back
abbrev pub fitting : Option ℕ → Fitting
fitting none = None
fitting (some b) = Some b

abbrev pub fits : Fitting → Option ℕ
fits None = none
fits (Some b) = some b

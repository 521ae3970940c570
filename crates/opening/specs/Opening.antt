-- "Opening takes M with entries in −1000..1000 and determinant above 0; X is M cancelled, nothing held." "Opening: 6, then 11."
use Rattle.std.specs.Prelude.{cond, List, [], ◌∷◌, ℕ, ℤ, pos, ◌≤ℤ◌, ◌<ℤ◌}
use Rattle.std.specs.Int.Signed.{lt_z}
use Rattle.whole.specs.Range.{Within, within?}
use Rattle.plane.specs.Plane.{determinant_of, cancel_of}
use Rattle.states.specs.State.{opened}
use Rattle.states.specs.Types.{State}
use Rattle.refusals.specs.Numbers.{outcome_number}
use Rattle.opening.specs.Types.{Opening, Opens, Start, Refusal, OutOfRange, MatrixNotAbove, Result, Ok, Err}

-- Document 01's number for each answer of opening; 0 where nothing is refused.
abbrev pub opening_number : Opening → ℕ
opening_number v = outcome_number v

-- "6, then 11": an entry out of −1000..1000, a determinant that is not above 0
abbrev pub opening_of : List ℤ → Opening
opening_of m = cond (within? 1000 m) (cond (lt_z (pos 0) (determinant_of m)) Opens (Err MatrixNotAbove)) (Err OutOfRange)

-- when each answer of opening is given, in document 01's words; no other refusal is an answer of it
abbrev pub OpeningCase : List ℤ → Opening → Type 0
OpeningCase m (Ok u) = Within 1000 m × (pos 0 <ℤ determinant_of m)
OpeningCase m (Err OutOfRange) = Within 1000 m → ⊥
OpeningCase m (Err MatrixNotAbove) = Within 1000 m × (determinant_of m ≤ℤ pos 0)
OpeningCase m (Err r) = ⊥

-- what stands in the place of a matrix, and of a state, where opening is refused: four 0, nothing held
abbrev pub no_matrix : List ℤ
no_matrix = pos 0 ∷ pos 0 ∷ pos 0 ∷ pos 0 ∷ []

abbrev pub refused_start : Opening → Start
refused_start v = record { opening = v; state = opened no_matrix }

abbrev pub start_of : List ℤ → Opening → Start
start_of m (Ok u) = record { opening = Opens; state = opened (cancel_of m) }
start_of m (Err r) = refused_start (Err r)

unfoldable pub open_of : List ℤ → Start
open_of m = start_of m (opening_of m)

-- what the code hands out, with four 0 in the place of the matrix where it hands out none
abbrev pub started : Result State Refusal → Start
started (Ok s) = record { opening = Opens; state = s }
started (Err r) = refused_start (Err r)

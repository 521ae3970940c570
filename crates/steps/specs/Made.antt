-- What a step of the code stands for, and what the inner functions of a run may rely on: it was judged before the first step, and each step keeps it.
-- (Nothing of this is asked of a plug-in.)
use Rattle.std.specs.Prelude.{◌≡◌, Bool, true, List, ℕ, ◌<◌, ◌≤◌, ℤ, pos, ◌<ℤ◌}
use Rattle.std.proofs.Math.Option.{Option, none, some}
use Rattle.std.specs.Int.{◌∣◌}
use Rattle.whole.specs.Range.{Within}
use Rattle.whole.specs.Divisor.{gcd4}
use Rattle.plane.specs.Plane.{determinant_of, multiply_of}
use Rattle.digits.specs.System.{System, SameDigits, transformation, interval}
use Rattle.digits.specs.BuiltIn.{table_of, rows_r, rows_b}
use Rattle.admission.specs.Admitted.{Digit as IsDigit, Digits}
use Rattle.runs.specs.Supply.{Supply}
use Rattle.runs.specs.Machine.{Outcome, goes, halts}
use Rattle.runs.specs.Plan.{Plan, took_x, gave_by, listed, follow}
use Rattle.states.specs.Types.{State, Stop}
use Rattle.steps.specs.Types.{Kind, Load, Give, Absorb, Halt, Move}
use Rattle.states.specs.State.{StateRules}
use Rattle.steps.specs.Step.{Setting}

-- ---- a step that the code made

abbrev pub move : Kind → State → Move
move k t = record { kind = k; state = t }

abbrev pub halt : Stop → State → Move
halt e s = move (Halt e) s

-- what a step of each kind did
abbrev pub outcome_by : Kind → State → Outcome State Stop
outcome_by (Load b) t = goes t (took_x b)
outcome_by (Give b g) t = goes t (gave_by b g)
outcome_by (Absorb g) t = goes t (listed g)
outcome_by (Halt e) t = halts e

-- "A stop leaves the state as it was before that step."
abbrev pub StaysBy : State → Kind → State → Type 0
StaysBy s (Load b) t = Unit {0}
StaysBy s (Give b g) t = Unit {0}
StaysBy s (Absorb g) t = Unit {0}
StaysBy s (Halt e) t = t ≡ s

-- the step m, from the state s, is the plan p, followed before a supply
pub record Follows (p : Plan State Stop) (s : State) (supply : Supply) (m : Move) : Type 0 where
  pub outcome : outcome_by m.kind m.state ≡ follow p supply
  pub stays : StaysBy s m.kind m.state

-- ---- what may be relied on

-- two matrices whose product can be formed, and cancelled by a divisor of d
pub record Factors (m n : List ℤ) (d : ℕ) : Type 0 where
  pub first : Within 1000000000 m
  pub second : Within 1000000000 n
  pub range : Within 200000000000 (multiply_of m n)
  pub above : 0 < d
  pub divides : gcd4 (multiply_of m n) ∣ d

-- a digit that has a place in a system, and a state whose matrix it can be multiplied with
pub record WorksWith (y : System) (s : State) (a : ℕ) : Type 0 where
  pub there : a < 16
  pub digit : IsDigit (transformation y a) (interval y a)
  pub cancelled : gcd4 s.matrix ≡ 1
  pub above : pos 0 <ℤ determinant_of s.matrix
  pub in_range : Within 1000000000 s.matrix

-- where r is true, digit a is one of R
pub record OfR (r : Bool) (y : System) (a : ℕ) : Type 0 where
  pub below : r ≡ true → a < 4
  pub same : r ≡ true → transformation y a ≡ transformation (table_of rows_r) a

-- the digit that was found to fit, if one was, can be given out
abbrev pub WorksWhere : Bool → System → State → Option ℕ → Type 0
WorksWhere r y s none = Unit {0}
WorksWhere r y s (some b) = (WorksWith y s b) × (OfR r y b)

-- where r is true, the held digit h is R's, and the output system is R; where b is, that is B
pub record HeldRecognised (r b : Bool) (input : System) (h : ℕ) (output : System) : Type 0 where
  pub digit : OfR r input h
  pub interval : r ≡ true → interval input h ≡ interval (table_of rows_r) h
  pub output_r : r ≡ true → SameDigits output (table_of rows_r)
  pub output_b : b ≡ true → SameDigits output (table_of rows_b)

-- what a run found of its systems: where r is true, both are R, and where b is, the output system is B
pub record Recognised (r b : Bool) (y : Setting) : Type 0 where
  pub input_r : r ≡ true → SameDigits y.input (table_of rows_r)
  pub output_r : r ≡ true → SameDigits y.output (table_of rows_r)
  pub output_b : b ≡ true → SameDigits y.output (table_of rows_b)

-- a system of digits
pub record Usable (s : System) : Type 0 where
  pub few : s.count ≤ 16
  pub digits : Digits s

pub record Ready (y : Setting) (s : State) : Type 0 where
  pub input : Usable y.input
  pub output : Usable y.output
  pub state : StateRules y.input.count s

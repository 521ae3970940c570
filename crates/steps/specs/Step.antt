-- "One step, first line that applies", with document 01's five lines in their order. "F, W are the input system's; G, U the output system's." The step
-- is a plan: it asks for a byte or a place where its line does, stops where that is missing, and changes something only where it goes on. So "A stop
-- leaves the state as it was before that step" is how it is read (crates/runs/specs/Plan.antt). From document 02, T-02: "a run lists them in a second
-- lent buffer, one number for each step 4 or 5 made", and "15, the list is full, in steps 4 and 5, after 20 and before 22".
use Rattle.std.specs.Prelude.{cond, List, [], ℕ, ◌≤◌, ltb, ℤ}
use Rattle.std.proofs.Math.Option.{Option, none, some}
use Rattle.plane.specs.Plane.{multiply_of, pseudoinverse_of, image_of, cancel_of}
use Rattle.whole.specs.Range.{within?}
use Rattle.whole.specs.Divisor.{gcd4}
use Rattle.digits.specs.System.{System, transformation, interval}
use Rattle.fitting.specs.FirstFit.{fitting_of}
use Rattle.runs.specs.Supply.{Supply}
use Rattle.runs.specs.Machine.{Machine}
use Rattle.runs.specs.Plan.{Plan, stop, go, byte_x, digit, divisor, planned}
use Rattle.states.specs.Types.{Held, None, Some, State, Stop, InputUsed, ListFull, NoRoom, NotADigit, RangeLeft}
use Rattle.states.specs.State.{loaded, given, absorbed, held_count}

-- what a run is given and never changes
pub record Setting : Type 0 where
  pub input : System
  pub output : System

abbrev pub setting : System → System → Setting
setting a b = record { input = a; output = b }

-- "The range is tested after cancelling": go on to t, or where an entry leaves the range, "stop, end 22"
abbrev pub ranged : State → Plan State Stop
ranged t = cond (within? 1000000000 t.matrix) (go t) (stop RangeLeft)

-- "X becomes .., cancelled": of the product m. Its divisor is listed: "the list is full" is asked first, then the range.
abbrev pub cancelled_plan : (List ℤ → State) → List ℤ → Plan State Stop
cancelled_plan new m = divisor ListFull (gcd4 m) (ranged (new (cancel_of m)))

-- 1. "Nothing held and no input left: stop, end 0."
-- 2. "Nothing held and the next byte is no digit of the input system: stop, end 21. The byte is not taken."
-- 3. "Nothing held: take the byte as the held digit. X stays."
abbrev pub load_plan : ℕ → State → Plan State Stop
load_plan n s = byte_x InputUsed (λ b. cond (ltb b n) (go (loaded s b)) (stop NotADigit))

-- 4. "Some U_b includes X·W_held: let b be the smallest." (`fitting_of`: crates/fitting/specs)
abbrev pub chosen : Setting → State → ℕ → Option ℕ
chosen y s h = fitting_of y.output (image_of s.matrix (interval y.input h))

-- "No room in the output: stop, end 20. Else X becomes pseudoinverse(G_b)·X, cancelled; if an entry leaves the range: stop, end 22; else write b."
abbrev pub given_matrix : System → State → ℕ → List ℤ
given_matrix output s b = multiply_of (pseudoinverse_of (transformation output b)) s.matrix

abbrev pub give_plan : System → State → ℕ → Plan State Stop
give_plan output s b = digit NoRoom b (cancelled_plan (given s) (given_matrix output s b))

-- 5. "No U_b does: X becomes X·F_held, cancelled, and nothing is held; if an entry leaves the range: stop, end 22."
abbrev pub absorbed_matrix : System → State → ℕ → List ℤ
absorbed_matrix input s h = multiply_of s.matrix (transformation input h)

abbrev pub absorb_plan : System → State → ℕ → Plan State Stop
absorb_plan input s h = cancelled_plan (absorbed s) (absorbed_matrix input s h)

-- lines 4 and 5, where h is held, by the choice
abbrev pub held_plan : Setting → State → ℕ → Option ℕ → Plan State Stop
held_plan y s h (some b) = give_plan y.output s b
held_plan y s h none = absorb_plan y.input s h

abbrev pub emit_plan : Setting → State → ℕ → Plan State Stop
emit_plan y s h = held_plan y s h (chosen y s h)

abbrev pub plan_by : Setting → State → Held → Plan State Stop
plan_by y s None = load_plan y.input.count s
plan_by y s (Some h) = emit_plan y s h

abbrev pub plan : Setting → State → Plan State Stop
plan y s = plan_by y s s.held

-- ---- the machine that makes these steps

abbrev pub plain : Setting → Machine State Stop
plain y = planned (λ s r. plan y s) (λ s. held_count s.held) InputUsed

-- what lies before it: the bytes of one word, and free places for digits and for divisors
abbrev pub one_word : List ℕ → ℕ → ℕ → Supply
one_word bytes room list = record { x = bytes; y = []; room = room; list = list }

-- the divisors that a step can list: each divides the determinant of the step's digit, whose numbers lie within 100 (`divisor_divides`, crates/plane)
abbrev pub DivisorNumber : ℕ → Type 0
DivisorNumber g = (1 ≤ g) × (g ≤ 20000)

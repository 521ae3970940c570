-- When a run ends how, and when it is refused by which number, in document 01's words. The theorem `ends_exactly` (proofs/) proves each both ways.
use Rattle.std.specs.Prelude.{◌≡◌, ◌⊎◌, List, ℕ, ◌≤◌, ◌<◌, length, get_or}
use Rattle.admission.specs.Types.{Admission, Admitted}
use Rattle.admission.specs.Admission.{refusal_number}
use Rattle.admission.specs.Admitted.{Admissible, SystemCase}
use Rattle.states.specs.Types.{None, Some, State, Stop, InputUsed, ListFull, NoRoom, NotADigit, RangeLeft, Refused}
use Rattle.states.specs.State.{StateRules}
use Rattle.steps.specs.Step.{Setting}
use Rattle.runs.specs.Run.{stopped}
use Rattle.unary.specs.Types.{Answer}
use Rattle.unary.specs.Run.{Ran, leaves}
use Rattle.exactly_when.specs.Lines.{Smallest, NoneFits, Leaves, given_x, absorbed_x}

-- ---- refused: "A run judges its input system (3, 6 to 10), its output system, then the state (12), before any step", and 18
-- directly after 10

pub data RefusedBy (y : Setting) (s : State) : ℕ → Type 0 where
  input_system : (v : Admission) → SystemCase y.input v → (v ≡ Admitted → ⊥) → RefusedBy y s (refusal_number v)
  output_system : Admissible y.input → (v : Admission) → SystemCase y.output v → (v ≡ Admitted → ⊥) → RefusedBy y s (refusal_number v)
  -- "12: the state handed to a run breaks the rules for a state"
  state : Admissible y.input → Admissible y.output → (StateRules y.input.count s → ⊥) → RefusedBy y s 12

pub record Passes (y : Setting) (s : State) : Type 0 where
  pub input : Admissible y.input
  pub output : Admissible y.output
  pub state : StateRules y.input.count s

-- ---- ended: the lines that stop, of the state in which the run stopped, with the counts that it answers

-- "Nothing held and no input left"
pub record InputLeftNone (input : List ℕ) (r : Answer) : Type 0 where
  pub free : r.state.held ≡ None
  pub all_taken : r.taken.0 ≡ length input

-- "Nothing held and the next byte is no digit of the input system": the byte behind the taken ones
pub record ByteNoDigit (y : Setting) (input : List ℕ) (r : Answer) : Type 0 where
  pub free : r.state.held ≡ None
  pub there : r.taken.0 < length input
  pub no_digit : y.input.count ≤ get_or input r.taken.0 0

-- "Some U_b includes X·W_held .. No room in the output"
pub record OutputFull (y : Setting) (output : List ℕ) (r : Answer) : Type 0 where
  pub held : ℕ
  pub holds : r.state.held ≡ Some held
  pub digit : ℕ
  pub smallest : Smallest y r.state held digit
  pub full : r.written.0 ≡ length output

-- which of steps 4 and 5 it is: the smallest digit that fits would be given out, and there is room; or none fits, and the held one would be absorbed
abbrev pub GivesOrAbsorbs : Setting → List ℕ → Answer → ℕ → (ℕ → Type 0) → Type 0 → Type 0
GivesOrAbsorbs y output r held Giving Absorbing =
    ((b : ℕ) × Smallest y r.state held b × (r.written.0 < length output) × Giving b) ⊎ (NoneFits y r.state held × Absorbing)

-- "15, the list is full, in steps 4 and 5, after 20"
pub record ListIsFull (y : Setting) (output divisors : List ℕ) (r : Answer) : Type 0 where
  pub held : ℕ
  pub holds : r.state.held ≡ Some held
  pub step : GivesOrAbsorbs y output r held (λ b. Unit {0}) (Unit {0})
  pub full : r.listed.0 ≡ length divisors

-- "if an entry leaves the range", and the list is not full
pub record EntryLeaves (y : Setting) (output divisors : List ℕ) (r : Answer) : Type 0 where
  pub held : ℕ
  pub holds : r.state.held ≡ Some held
  pub place : r.listed.0 < length divisors
  pub leaves : GivesOrAbsorbs y output r held (λ b. Leaves (given_x y r.state b)) (Leaves (absorbed_x y r.state held))

abbrev pub EndCase : Setting → List ℕ → List ℕ → List ℕ → Answer → Stop → Type 0
EndCase y input output divisors r InputUsed = InputLeftNone input r
EndCase y input output divisors r NotADigit = ByteNoDigit y input r
EndCase y input output divisors r NoRoom = OutputFull y output r
EndCase y input output divisors r ListFull = ListIsFull y output divisors r
EndCase y input output divisors r RangeLeft = EntryLeaves y output divisors r
EndCase y input output divisors r (Refused number) = ⊥

-- a run that was handed the state s, and answers r
abbrev pub RunCase : Setting → State → List ℕ → List ℕ → List ℕ → Answer → Stop → Type 0
RunCase y s input output divisors r (Refused number) = RefusedBy y s number
RunCase y s input output divisors r InputUsed = Passes y s × EndCase y input output divisors r InputUsed
RunCase y s input output divisors r NotADigit = Passes y s × EndCase y input output divisors r NotADigit
RunCase y s input output divisors r NoRoom = Passes y s × EndCase y input output divisors r NoRoom
RunCase y s input output divisors r ListFull = Passes y s × EndCase y input output divisors r ListFull
RunCase y s input output divisors r RangeLeft = Passes y s × EndCase y input output divisors r RangeLeft

-- ---- after end 22: whatever bytes, whatever room and whatever list a call from that state t is given, it does nothing, and ends 22 again; but where there is
-- no room at all and a digit fits, 20, since the room is asked for first; and where that is not so and the list has no place at all, 15, which is asked for
-- next
pub data Over (y : Setting) (t : State) (room list : List ℕ) : Ran → Type 0 where
  with_room : 1 ≤ length room → 1 ≤ length list → Over y t room list (leaves (stopped RangeLeft t) room list)
  none_fits : (h : ℕ) → t.held ≡ Some h → NoneFits y t h → 1 ≤ length list → Over y t room list (leaves (stopped RangeLeft t) room list)
  without_room : (h : ℕ) → t.held ≡ Some h → (b : ℕ) → Smallest y t h b → length room ≡ 0 → Over y t room list (leaves (stopped NoRoom t) room list)
  without_list : 1 ≤ length room → length list ≡ 0 → Over y t room list (leaves (stopped ListFull t) room list)
  none_fits_unlisted : (h : ℕ) → t.held ≡ Some h → NoneFits y t h → length list ≡ 0 → Over y t room list (leaves (stopped ListFull t) room list)

-- "One step, first line that applies": document 01's five lines as sentences, with when each applies and what it does, and document 02's "15, the list is
-- full, in steps 4 and 5, after 20 and before 22". Inclusion is the sentence, "every point inside I is inside J", and not the test of it. The theorem
-- `step_exactly` (proofs/) proves that the step does this and nothing else.
use Rattle.std.specs.Prelude.{◌≡◌, List, [], ◌∷◌, ℕ, ◌≤◌, ◌<◌, ℤ, nat_abs}
use Rattle.std.proofs.Math.Option.{Option, none, some}
use Rattle.whole.specs.Range.{at, Within}
use Rattle.whole.specs.Divisor.{gcd4}
use Rattle.plane.specs.Plane.{cancel_of}
use Rattle.runs.specs.Supply.{Supply}
use Rattle.runs.specs.Machine.{Outcome, goes, halts}
use Rattle.runs.specs.Plan.{took_x, gave_by, listed}
use Rattle.states.specs.Types.{None, Some, State, Stop, InputUsed, ListFull, NoRoom, NotADigit, RangeLeft}
use Rattle.states.specs.State.{loaded, given, absorbed}
use Rattle.steps.specs.Step.{Setting, given_matrix, absorbed_matrix}
use Rattle.meaning.specs.Moments.{Fits}

-- "Some U_b includes X·W_held: let b be the smallest." (`Fits`: a digit of the output system whose interval does)
pub record Smallest (y : Setting) (s : State) (h b : ℕ) : Type 0 where
  pub fits : Fits y s h b
  pub smallest : (c : ℕ) → c < b → Fits y s h c → ⊥

-- "No U_b does"
abbrev pub NoneFits : Setting → State → ℕ → Type 0
NoneFits y s h = (b : ℕ) → Fits y s h b → ⊥

-- which of the two: a digit is chosen, or none
abbrev pub Choice : Setting → State → ℕ → Option ℕ → Type 0
Choice y s h (some b) = Smallest y s h b
Choice y s h none = NoneFits y s h

-- "an entry leaves the range": one of the four, and which
pub record Leaves (m : List ℤ) : Type 0 where
  pub entry : ℕ
  pub one_of_four : entry < 4
  pub out : 1000000000 < nat_abs (at m entry)

-- "X becomes pseudoinverse(G_b)·X, cancelled", and "X becomes X·F_held, cancelled"
abbrev pub given_x : Setting → State → ℕ → List ℤ
given_x y s b = cancel_of (given_matrix y.output s b)

abbrev pub absorbed_x : Setting → State → ℕ → List ℤ
absorbed_x y s h = cancel_of (absorbed_matrix y.input s h)

-- what they are cancelled by: the greatest common divisor of the four entries
abbrev pub given_divisor : Setting → State → ℕ → ℕ
given_divisor y s b = gcd4 (given_matrix y.output s b)

abbrev pub absorbed_divisor : Setting → State → ℕ → ℕ
absorbed_divisor y s h = gcd4 (absorbed_matrix y.input s h)

-- The step from the state s, before the bytes, the room and the list of r, and what comes of it.
pub data Line (y : Setting) (s : State) (r : Supply) : Outcome State Stop → Type 0 where
  -- 1. "Nothing held and no input left: stop, end 0."
  no_input : s.held ≡ None → r.x ≡ [] → Line y s r (halts InputUsed)
  -- 2. "Nothing held and the next byte is no digit of the input system: stop, end 21. The byte is not taken."
  no_digit : s.held ≡ None → (b : ℕ) (rest : List ℕ) → r.x ≡ b ∷ rest → y.input.count ≤ b → Line y s r (halts NotADigit)
  -- 3. "Nothing held: take the byte as the held digit. X stays."
  takes : s.held ≡ None → (b : ℕ) (rest : List ℕ) → r.x ≡ b ∷ rest → b < y.input.count → Line y s r (goes (loaded s b) (took_x b))
  -- 4. "Some U_b includes X·W_held: let b be the smallest. No room in the output: stop, end 20. Else X becomes pseudoinverse(G_b)·X, cancelled;
  -- if an entry leaves the range: stop, end 22; else write b." The list is asked for in between, and the divisor stands in it.
  no_room : (h : ℕ) → s.held ≡ Some h → (b : ℕ) → Smallest y s h b → r.room ≡ 0 → Line y s r (halts NoRoom)
  giving_unlisted : (h : ℕ) → s.held ≡ Some h → (b : ℕ) → Smallest y s h b → 0 < r.room → r.list ≡ 0 → Line y s r (halts ListFull)
  giving_leaves : (h : ℕ) → s.held ≡ Some h → (b : ℕ) → Smallest y s h b → 0 < r.room → 0 < r.list → Leaves (given_x y s b) →
      Line y s r (halts RangeLeft)
  gives : (h : ℕ) → s.held ≡ Some h → (b : ℕ) → Smallest y s h b → 0 < r.room → 0 < r.list → Within 1000000000 (given_x y s b) →
      Line y s r (goes (given s (given_x y s b)) (gave_by b (given_divisor y s b)))
  -- 5. "No U_b does: X becomes X·F_held, cancelled, and nothing is held; if an entry leaves the range: stop, end 22." The list is asked for first.
  absorbing_unlisted : (h : ℕ) → s.held ≡ Some h → NoneFits y s h → r.list ≡ 0 → Line y s r (halts ListFull)
  absorbing_leaves : (h : ℕ) → s.held ≡ Some h → NoneFits y s h → 0 < r.list → Leaves (absorbed_x y s h) → Line y s r (halts RangeLeft)
  absorbs : (h : ℕ) → s.held ≡ Some h → NoneFits y s h → 0 < r.list → Within 1000000000 (absorbed_x y s h) →
      Line y s r (goes (absorbed s (absorbed_x y s h)) (listed (absorbed_divisor y s h)))

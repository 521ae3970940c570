-- "State: a matrix X (cancelled, determinant above 0, entries within ±1,000,000,000) and a held digit of the input system, or none."
use Rattle.std.specs.Prelude.{◌≡◌, Bool, true, false, List, ◌⊎◌, ℕ, ◌<◌, ◌≤◌, ltb, ℤ, pos, ◌<ℤ◌}
use Rattle.whole.specs.Range.{Within}
use Rattle.whole.specs.Divisor.{gcd4}
use Rattle.plane.specs.Plane.{determinant_of}
use Rattle.states.specs.Types.{Held, None, Some, State, Stop, InputUsed, ListFull, NoRoom, NotADigit, RangeLeft, Refused}

-- ---- a state is built in these four ways (and at the C boundary, from a plug-in's numbers)

-- "X is M cancelled, nothing held": of the cancelled matrix
abbrev pub opened : List ℤ → State
opened x = record { matrix = x; held = None }

-- "take the byte as the held digit. X stays."
abbrev pub loaded : State → ℕ → State
loaded s a = record { matrix = s.matrix; held = Some a }

-- a new X, where a digit is given out
abbrev pub given : State → List ℤ → State
given s x = record { matrix = x; held = s.held }

-- a new X, "and nothing is held"
abbrev pub absorbed : State → List ℤ → State
absorbed s x = record { matrix = x; held = None }

-- ---- the rules for a state

-- "a held digit of the input system, or none", where the input system has n digits
abbrev pub HeldDigit : ℕ → Held → Type 0
HeldDigit n None = Unit {0}
HeldDigit n (Some d) = d < n

-- the same as a test
abbrev pub held_digit? : ℕ → Held → Bool
held_digit? n None = true
held_digit? n (Some d) = ltb d n

pub record StateRules (n : ℕ) (s : State) : Type 0 where
  pub cancelled : gcd4 s.matrix ≡ 1
  pub above : pos 0 <ℤ determinant_of s.matrix
  pub in_range : Within 1000000000 s.matrix
  pub held_digit : HeldDigit n s.held

-- how many digits it holds
abbrev pub held_count : Held → ℕ
held_count None = 0
held_count (Some d) = 1

-- ---- "Why a run stopped is one of five kinds, and the kind that refuses carries its number"; document 02 has a sixth: "15, the list is full"

-- the number for each
abbrev pub end_number : Stop → ℕ
end_number InputUsed = 0
end_number ListFull = 15
end_number NoRoom = 20
end_number NotADigit = 21
end_number RangeLeft = 22
end_number (Refused number) = number

abbrev pub refused? : Stop → Bool
refused? InputUsed = false
refused? ListFull = false
refused? NoRoom = false
refused? NotADigit = false
refused? RangeLeft = false
refused? (Refused number) = true

-- the ends of a step: 0, 15, 20, 21, 22, and never a refusal
abbrev pub EndNumber : ℕ → Type 0
EndNumber n = (n ≡ 0) ⊎ ((n ≡ 15) ⊎ ((20 ≤ n) × (n ≤ 22)))

pub record StepEnd (e : Stop) : Type 0 where
  pub number : EndNumber (end_number e)
  pub not_refused : refused? e ≡ false

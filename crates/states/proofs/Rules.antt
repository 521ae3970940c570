-- A matrix that is cancelled keeps the rules for X, if its determinant was above 0 and it ends in the range. What the test of a held digit says. At most one digit is held. What is no refusal is an end of a step.
use Rattle.whole.proofs.Laws.{◌≡◌, refl, true, false, true≢false, List, inl, inr, ℕ, ◌≤◌, arith, ltb-true, lt-ltb, ℤ, Within}
use Rattle.plane.proofs.Laws.{cancel_of, DetAbove, cancel_says}
use Rattle.states.specs.Types.{Held, None, Some, State, Stop, InputUsed, ListFull, NoRoom, NotADigit, RangeLeft, Refused}
use Rattle.states.specs.State.{HeldDigit, held_digit?, StateRules, held_count, end_number, refused?, EndNumber, StepEnd}

pub cancelled_rules : (n : ℕ) (s : State) (m : List ℤ) → s.matrix ≡ cancel_of m → DetAbove m → Within 1000000000 s.matrix → HeldDigit n s.held → StateRules n s
cancelled_rules n s m e d w k =
    let c = cancel_says m d.above in
    record { cancelled = rw e c.lowest; above = rw e c.keeps.above; in_range = w; held_digit = k }

-- a held digit below n, by the test
pub held_says : (n : ℕ) (h : Held) → held_digit? n h ≡ true → HeldDigit n h
held_says n None e = tt
held_says n (Some d) e = ltb-true d n e

pub says_held : (n : ℕ) (h : Held) → HeldDigit n h → held_digit? n h ≡ true
says_held n None k = refl
says_held n (Some d) k = lt-ltb d n k

pub one_held : (h : Held) → held_count h ≤ 1
one_held None = omega arith
one_held (Some d) = omega arith

pub step_end : (e : Stop) → refused? e ≡ false → StepEnd e
step_end e r = record { number = by e r; not_refused = r }
  where
    by : (e : Stop) → refused? e ≡ false → EndNumber (end_number e)
    by InputUsed r = inl refl
    by ListFull r = inr (inl refl)
    by NoRoom r = inr (inr (omega arith, omega arith))
    by NotADigit r = inr (inr (omega arith, omega arith))
    by RangeLeft r = inr (inr (omega arith, omega arith))
    by (Refused number) r = absurd (true≢false r)

-- System B by symmetry: its rows are document 01's, number for number; the sixteen laws hold of them; and whatever has its row 0 and obeys the laws has its digits. The first
-- two by computation, the last along 0, 2, 4, 6 and 7, 1, 3, 5: each digit is fixed by the one before it.
use Rattle.whole.proofs.Laws.{◌≡◌, refl, List, ℕ, zero, suc, ◌+◌, ◌-◌, ◌%◌, ◌<◌, arith, ℤ, within?, every_passes, first}
use Rattle.plane.proofs.Laws.{Interval, determinant_of, scale_pair}
use Rattle.symmetry.proofs.Laws.{interval_in, SameDigit, digit_refl, digit_sym, digit_trans, digit_signs, digit_turned, digit_reflected, turnable?, turnable_says}
use Rattle.digits.specs.BuiltIn.{rows_b}
use Rattle.digits.specs.SystemB.{printed_b, row_at, Symmetric, BySymmetry}

-- what holds of 0, of 1 and so on, n times, holds of every number below n
abbrev Each : (ℕ → Type 0) → ℕ → Type 0
Each P zero = Unit {0}
Each P (suc n) = P 0 × Each (λ a. P (suc a)) n

infixr 4 ◌⨾◌
◌⨾◌ : {A B : Type 0} → A → B → A × B
p ⨾ q = (p, q)

below : (P : ℕ → Type 0) (n : ℕ) → Each P n → (a : ℕ) → a < n → P a
below P zero e a h = absurd (omega arith)
below P (suc n) e zero h = e.0
below P (suc n) e (suc a) h = below (λ a. P (suc a)) n e.1 a (omega arith)

stays : rows_b ≡ printed_b
unfolding rows_b
stays = refl

-- the same row, or the interval with the other sign at both ends
symmetric : Symmetric rows_b
unfolding rows_b scale_pair
symmetric = record {
  turns = below _ 8 (
      digit_refl _ ⨾ digit_refl _ ⨾ digit_refl _ ⨾ digit_refl _ ⨾ digit_signs refl refl refl ⨾ digit_signs refl refl refl ⨾ digit_refl _ ⨾ digit_refl _ ⨾ tt
      );
  reflects = below _ 8 (
      digit_refl _ ⨾ digit_refl _ ⨾ digit_signs refl refl refl ⨾ digit_signs refl refl refl ⨾ digit_signs refl refl refl ⨾ digit_signs refl refl refl ⨾ digit_refl _ ⨾ digit_refl _ ⨾ tt
      );
}

intervals : (a : ℕ) → a < 8 → Interval (interval_in (row_at rows_b a))
unfolding rows_b within? determinant_of first
intervals a h = (turnable_says (row_at rows_b a) (every_passes (λ a. turnable? (row_at rows_b a)) 8 refl a h)).interval

-- a system that obeys the laws
module _ (rows : List (List ℤ)) (s : Symmetric rows) where
  abbrev Same : ℕ → Type 0
  Same a = SameDigit (row_at rows_b a) (row_at rows a)

  turn : (a : ℕ) → a < 8 → Same a → Same ((a + 2) % 8)
  turn a h d = digit_trans (digit_sym (symmetric.turns a h)) (digit_trans (digit_turned (intervals a h) d) (s.turns a h))

  reflect : (a : ℕ) → a < 8 → Same a → Same (7 - a)
  reflect a h d = digit_trans (digit_sym (symmetric.reflects a h)) (digit_trans (digit_reflected d) (s.reflects a h))

  no_other : Same 0 → (a : ℕ) → a < 8 → Same a
  no_other r0 =
      let r2 : Same 2 = turn 0 (omega arith) r0 in
      let r4 : Same 4 = turn 2 (omega arith) r2 in
      let r6 : Same 6 = turn 4 (omega arith) r4 in
      let r7 : Same 7 = reflect 0 (omega arith) r0 in
      let r1 : Same 1 = turn 7 (omega arith) r7 in
      let r3 : Same 3 = turn 1 (omega arith) r1 in
      let r5 : Same 5 = turn 3 (omega arith) r3 in
      below Same 8 (r0 ⨾ r1 ⨾ r2 ⨾ r3 ⨾ r4 ⨾ r5 ⨾ r6 ⨾ r7 ⨾ tt)

pub b_by_symmetry : BySymmetry
b_by_symmetry = record { stays = stays; symmetric = symmetric; no_other = λ rows r0 s. no_other rows s r0 }

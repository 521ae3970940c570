-- What sessions over one word and over two share. A call that answers 0, or anything but 40, was lent slices of the right lengths (`answers_0`, `not_40`), and
-- one that answers 0 is refused by nothing (`next_0`); a system of which sled_admit answers 0 keeps the rules (`admits`); one that reads has 128 numbers (`columns_128`); and a held
-- digit is one of at most 16, so it is a byte, and is read back from its number (`held_byte`).
use Rattle.whole.proofs.Laws.{◌≡◌, refl, sym, ap, ◌∙◌, Bool, true, false, cond, ℕ, zero, suc, ◌≤◌, arith, length, unless_refused}
use Rattle.digits.proofs.Laws.{StoredSystem, system_of, rows_of, columns_length}
use Rattle.admission.proofs.Laws.{Admitted, Admissible, admission_of, number_0, admitted_exactly}
use Rattle.states.proofs.Laws.{Held, None, Some, HeldDigit}
use Rattle.job_sections.proofs.Laws.{SystemRules}
use Rattle.numbers.proofs.Laws.{wrong_length, Byte}
use Rattle.numbers.specs.Numbers.{columns?}
use Rattle.plugin.specs.Calls.{admit_number}

-- ---- what an answer says: `yes` is left where the test of the lengths passes, and `no`, which answers 40, where it does not

module _ {A : Type 0} (number : A → ℕ) {yes no : A} (refuses : number no ≡ wrong_length) where
  pub not_40 : (t : Bool) → (number (cond t yes no) ≡ wrong_length → ⊥) → (t ≡ true) × (cond t yes no ≡ yes)
  not_40 true right = (refl, refl)
  not_40 false right = absurd (right refuses)

  pub answers_0 : (t : Bool) → number (cond t yes no) ≡ 0 → (t ≡ true) × (cond t yes no ≡ yes)
  answers_0 t e = not_40 t (λ f. omega (arith, e, f))

-- and `next` where nothing is refused; what is refused by k answers k
pub next_0 : {A : Type 0} (number : A → ℕ) {refuse : ℕ → A} {next : A} → ((k : ℕ) → number (refuse k) ≡ k) → (n : ℕ) →
    number (unless_refused n refuse next) ≡ 0 → (n ≡ 0) × (unless_refused n refuse next ≡ next)
unfolding unless_refused
next_0 number own zero e = (refl, refl)
next_0 number own (suc n) e = absurd (omega (arith, e, own (suc n)))

pub admits : (s : StoredSystem) → admit_number s ≡ 0 → Admissible (system_of s)
unfolding admit_number
admits s e =
    let right = answers_0 (λ (n : ℕ). n) refl (columns? s.columns) e in
    (admitted_exactly (system_of s) Admitted).0 (number_0 (admission_of (system_of s)) (sym right.1 ∙ e))

-- ---- what reads

-- a system that reads has 128 numbers
pub columns_128 : {s : StoredSystem} → SystemRules s → length s.columns ≡ 128
columns_128 {s} h = ap length h.unused ∙ columns_length (rows_of s)

-- ---- what is held

pub held_byte : (n : ℕ) (h : Held) → n ≤ 16 → HeldDigit n h → Byte h
held_byte n None few d = tt
held_byte n (Some a) few d = omega arith

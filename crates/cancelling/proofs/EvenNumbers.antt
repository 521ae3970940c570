-- Even numbers on machine words: what a remainder by 2 asks (`rem_asks`), what the test on it says (`is_even`), and that the shift, which rounds down, is the exact half of
-- an even number (`half`).
use Rattle.whole.proofs.Laws.{◌≡◌, refl, sym, ◌∙◌, ap, true, ◌↔◌, ℕ, zero, suc, ◌/◌, ◌%◌, ◌≤◌, ◌<◌, ◌∣◌, zero-le, div-le_self, lt_of_le_of_lt, arith, eqb, eqb-true, eq-eqb, ℤ, pos, negsuc, neg_ℤ, nat_abs, nat_abs_neg, nat_abs_zero, mag, quot_z, held, Fits, ok_back, back_of_lem}
use native.Mathlib.Nat.{dvd_of_mod-eq-zero, mod-eq-zero_of_dvd}
use lib.Signed.{rem_z, shr_z, mag_rem, mag_shr}
use mir.Syntax.{w64}
use mir.Val.{SFits, of_z, to_z}

-- ---- remainders

mag_quot : (z : ℤ) → mag (quot_z z (pos 2)) ≤ mag z
mag_quot (pos a) = div-le_self a 2
mag_quot (negsuc a) = turned (suc a / 2) (omega arith)
  where
    turned : (r : ℕ) → r ≤ a → mag (neg_ℤ (pos r)) ≤ a
    turned zero p = zero-le
    turned (suc r) p = omega arith

pub rem_asks : (z : ℤ) → Fits z → (0 < 2) × SFits w64 (quot_z (held z) (pos 2))
rem_asks z f = rw (back_of_lem z f) (omega arith, record { sfits = lt_of_le_of_lt (mag_quot z) f })

size : (z : ℤ) → nat_abs (rem_z z (pos 2)) ≡ nat_abs z % 2
size (pos a) = refl
size (negsuc a) = nat_abs_neg (pos (suc a % 2))

nought : (z : ℤ) → (rem_z z (pos 2) ≡ pos 0) ↔ (2 ∣ nat_abs z)
nought z = (λ e. dvd_of_mod-eq-zero 2 (sym (size z) ∙ ap nat_abs e), λ d. nat_abs_zero (size z ∙ mod-eq-zero_of_dvd 2 d))

-- a word that holds r is 0 just where r is
word_nought : (r : ℤ) → Fits r → (eqb (of_z w64 r) 0 ≡ true) ↔ (r ≡ pos 0)
word_nought r f = (λ e. sym (ok_back f) ∙ ap (to_z w64) (eqb-true (of_z w64 r) 0 e), λ e. eq-eqb (of_z w64 r) 0 (ap (of_z w64) e))

pub is_even : (z : ℤ) → Fits z → (eqb (of_z w64 (rem_z (held z) (pos 2))) 0 ≡ true) ↔ (2 ∣ nat_abs z)
is_even z f =
    let w = word_nought (rem_z z (pos 2)) (lt_of_le_of_lt (mag_rem z (pos 2)) f) in
    rw (back_of_lem z f) (λ e. (nought z).0 (w.0 e), λ d. w.1 ((nought z).1 d))

-- ---- halves

shift : (z : ℤ) → 2 ∣ nat_abs z → shr_z z 2 ≡ quot_z z (pos 2)
shift (pos a) d = refl
shift (negsuc a) d = let e : suc (a / 2) ≡ suc a / 2 = omega (arith, mod-eq-zero_of_dvd 2 d) in ap (λ (n : ℕ). neg_ℤ (pos n)) e

pub half : (z : ℤ) → Fits z → 2 ∣ nat_abs z → held (shr_z (held z) 2) ≡ quot_z z (pos 2)
half z f d = ap (λ (x : ℤ). held (shr_z x 2)) (back_of_lem z f) ∙ ok_back (lt_of_le_of_lt (mag_shr z 2) f) ∙ shift z d

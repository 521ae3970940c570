-- Decimal digits. What holds of a number's digits is proved one digit at a time (`each`), and so is that they say the number.
use Rattle.whole.proofs.Laws.{◌≡◌, refl, ap, ◌∙◌, List, [], ◌∷◌, ◌++◌, inl, inr, ℕ, zero, suc, ◌+◌, ◌*◌, ◌-◌, ◌/◌, ◌%◌, ◌^◌, ◌≤◌, ◌<◌, eq-zero-or-pos, arith, lt-ltb, le-ltb, length, get_or, length-append, List·getD-append}
use native.Mathlib.Nat.{pow-suc, div-lt_iff_lt-mul}
use Rattle.text.specs.Number.{glyph, digits_by, decimal, value_by}

one_digit : (k n : ℕ) → n < 10 → digits_by (suc k) n ≡ glyph (n % 10) ∷ []
unfolding digits_by
one_digit k n h = rw (lt-ltb n 10 h)

more_digits : (k n : ℕ) → 10 ≤ n → digits_by (suc k) n ≡ digits_by k (n / 10) ++ (glyph (n % 10) ∷ [])
unfolding digits_by
more_digits k n h = rw (le-ltb n 10 h)

-- what holds of one digit, and of a digit more behind those of n / 10, holds of every number's digits
module _ (P : ℕ → List ℕ → Type 0) (one : (n : ℕ) → n < 10 → P n (glyph (n % 10) ∷ []))
    (more : (n : ℕ) (ds : List ℕ) → 10 ≤ n → P (n / 10) ds → P n (ds ++ (glyph (n % 10) ∷ []))) where
  each_by : (k n : ℕ) → n < k → P n (digits_by k n)
  each_by zero n h = absurd (omega arith)
  each_by (suc k) n h = elim (eq-zero-or-pos (n / 10)) [
    | inl e ↦ rw (one_digit k n (omega arith)) (one n (omega arith))
    | inr g ↦ rw (more_digits k n (omega arith)) (more n _ (omega arith) (each_by k (n / 10) (omega arith)))
  ]

  pub each : (n : ℕ) → P n (decimal n)
  unfolding decimal
  each n = each_by (suc n) n (omega arith)

-- how many steps the digits were given makes no difference
steps : (n k : ℕ) → n < k → digits_by k n ≡ decimal n
steps = each (λ n ds. (k : ℕ) → n < k → digits_by k n ≡ ds) one more
  where
    one : (n : ℕ) → n < 10 → (k : ℕ) → n < k → digits_by k n ≡ glyph (n % 10) ∷ []
    one n s zero h = absurd (omega arith)
    one n s (suc k) h = one_digit k n s

    more : (n : ℕ) (ds : List ℕ) → 10 ≤ n → ((k : ℕ) → n / 10 < k → digits_by k (n / 10) ≡ ds) → (k : ℕ) → n < k → digits_by k n ≡ ds ++ (glyph (n % 10) ∷ [])
    more n ds g rest zero h = absurd (omega arith)
    more n ds g rest (suc k) h = more_digits k n g ∙ ap (λ (x : List ℕ). x ++ (glyph (n % 10) ∷ [])) (rest k (omega arith))

pub decimal_one : (n : ℕ) → n < 10 → decimal n ≡ glyph (n % 10) ∷ []
unfolding decimal
decimal_one n h = one_digit n n h

pub decimal_more : (n : ℕ) → 10 ≤ n → decimal n ≡ decimal (n / 10) ++ (glyph (n % 10) ∷ [])
unfolding decimal
decimal_more n h = more_digits n n h ∙ ap (λ (x : List ℕ). x ++ (glyph (n % 10) ∷ [])) (steps (n / 10) n (omega arith))

-- a number below 10^k has at most k digits, where k is not 0
pub few_digits : (n m : ℕ) → n < 10 ^ suc m → length (decimal n) ≤ suc m
few_digits = each (λ n ds. (m : ℕ) → n < 10 ^ suc m → length ds ≤ suc m) (λ n s m h. omega arith) more
  where
    more : (n : ℕ) (ds : List ℕ) → 10 ≤ n → ((m : ℕ) → n / 10 < 10 ^ suc m → length ds ≤ suc m) → (m : ℕ) → n < 10 ^ suc m → length (ds ++ (glyph (n % 10) ∷ [])) ≤ suc m
    more n ds g rest zero h = absurd (omega arith)
    more n ds g rest (suc m) h =
        let l = rest m ((div-lt_iff_lt-mul {k = 10} {x = n} {y = 10 ^ suc m} (omega arith)).1 (rw (pow-suc 10 (suc m)) at h)) in
        simp length-append (omega arith)

-- read digit by digit, what is written of a number is the number
value_last : (front : ℕ) (xs : List ℕ) (b : ℕ) → value_by front (xs ++ (b ∷ [])) ≡ 10 * value_by front xs + (b - 48)
value_last front [] b = refl
value_last front (x ∷ xs) b = value_last (10 * front + (x - 48)) xs b

pub decimal_says : (n : ℕ) → value_by 0 (decimal n) ≡ n
decimal_says = each (λ n ds. value_by 0 ds ≡ n) (λ n s. omega arith) (λ n ds g v. value_last 0 ds (glyph (n % 10)) ∙ omega arith)

-- no 0 stands in front of a number above 0
record Front (ds : List ℕ) : Type 0 where
  some : 0 < length ds
  first : 48 < get_or ds 0 0

front : (n : ℕ) → 0 < n → Front (decimal n)
front = each (λ n ds. 0 < n → Front ds) (λ n s h. record { some = omega arith; first = omega arith }) λ n ds g f h.
    let x = f (omega arith) in
    record { some = simp length-append (omega arith); first = rw (List·getD-append ds (glyph (n % 10) ∷ []) 0 0 x.some) x.first }

pub no_0_in_front : (n : ℕ) → 0 < n → 48 < get_or (decimal n) 0 0
no_0_in_front n h = (front n h).first

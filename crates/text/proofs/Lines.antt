-- The laws of a line of numbers, as it is written: no field, one field more, the last field.
use Rattle.whole.proofs.Laws.{◌≡◌, refl, sym, ap, ◌∙◌, List, [], ◌∷◌, ◌++◌, map, ℕ, zero, suc, ◌+◌, ◌≤◌, ◌<◌, add-one, arith, length, get_or, drop, length-append, List·getD-append}
use Rattle.text.specs.Number.{decimal}
use Rattle.text.specs.Line.{line_of}
use Rattle.text.proofs.Decimals.{few_digits}

pub no_field : (ds : List ℕ) → length ds ≡ 0 → 10 ∷ [] ≡ line_of (map decimal ds)
no_field [] e = refl
no_field (d ∷ ds) e = absurd (omega arith)

-- all the bytes but the last, and the last
pub front_byte : (front : List ℕ) (b i : ℕ) {ds : List ℕ} {d : ℕ} → ds ≡ front ++ (b ∷ []) → i < length front → d ≡ get_or front i 0 → d ≡ get_or ds i 0
front_byte front b i e h r = r ∙ sym (List·getD-append front (b ∷ []) 0 i h) ∙ ap (λ (ds : List ℕ). get_or ds i 0) (sym e)

pub last_byte : (front : List ℕ) (b : ℕ) {ds : List ℕ} {d : ℕ} → ds ≡ front ++ (b ∷ []) → d ≡ b → d ≡ get_or ds (length front) 0
last_byte front b e r = r ∙ sym (at_end front) ∙ ap (λ (ds : List ℕ). get_or ds (length front) 0) (sym e)
  where
    at_end : (front : List ℕ) → get_or (front ++ (b ∷ [])) (length front) 0 ≡ b
    at_end [] = refl
    at_end (x ∷ front) = at_end front

pub field_more : (ds : List ℕ) (i : ℕ) {d : ℕ} → d ≡ get_or ds i 0 → i + 1 < length ds →
    line_of (map decimal (drop i ds)) ≡ (decimal d ++ (32 ∷ [])) ++ line_of (map decimal (drop (i + 1) ds))
field_more ds i e h = rw (e, add-one i) (by ds i (omega arith))
  where
    by : (ds : List ℕ) (i : ℕ) → suc i < length ds →
        line_of (map decimal (drop i ds)) ≡ (decimal (get_or ds i 0) ++ (32 ∷ [])) ++ line_of (map decimal (drop (suc i) ds))
    by [] i h = absurd (omega arith)
    by (d ∷ []) i h = absurd (omega arith)
    by (d ∷ e ∷ ds) zero h = refl
    by (d ∷ e ∷ ds) (suc i) h = by (e ∷ ds) i (omega arith)

pub last_field : (ds : List ℕ) (i : ℕ) {d : ℕ} → d ≡ get_or ds i 0 → i + 1 ≡ length ds → line_of (map decimal (drop i ds)) ≡ decimal d ++ (10 ∷ [])
last_field ds i e h = rw e (by ds i h)
  where
    by : (ds : List ℕ) (i : ℕ) → i + 1 ≡ length ds → line_of (map decimal (drop i ds)) ≡ decimal (get_or ds i 0) ++ (10 ∷ [])
    by [] i h = absurd (omega arith)
    by (d ∷ []) zero h = refl
    by (d ∷ e ∷ ds) zero h = absurd (omega arith)
    by (d ∷ ds) (suc i) h = by ds i (omega arith)

-- a byte has at most three digits
pub field_length : (d b : ℕ) → d < 256 → length (decimal d ++ (b ∷ [])) ≤ 4
field_length d b h = let l = few_digits d 2 (omega arith) in simp length-append (omega arith)

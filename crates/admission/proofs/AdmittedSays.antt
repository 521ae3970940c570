-- The judgement of a whole system says what document 01 says: "Admitted if every number lies in −100..100, det F > 0, det W < 0, the four numbers of F have
-- greatest common divisor 1, so have the two numbers of each end, and every point lies in the closed interval of some digit"; and each number of refusal is "given
-- exactly when" its line of the table holds, in the order "a system has 0 or more than 16 digits" (3), then "row by row 6, 7, 8, 9; then 10", and then document 02's
-- "18, a row not expanding, directly after 10".
--
-- `admitted_only` takes a sentence and finds how the count, the search for the first row that is refused and the cover come out. The row that the search finds has its own
-- answer (`row_says`), behind rows that are all digits; where it finds none, all rows are digits, and the theorems on the cover and on expanding say what the two tests mean.
-- So one of the sentences always holds, and the answer that is given is its answer (`admitted_says`). Both together are `admitted_exactly`.
use Rattle.whole.proofs.Laws.{◌≡◌, refl, sym, ◌∙◌, ap, ap₂, subst, Bool, true, false, cond, false≢true, ◌⊎◌, inl, inr, ◌↔◌, Option, none, some, ℕ, ◌-◌, ◌≤◌, ◌<◌, eq-zero-or-pos, arith, le-leb, lt-leb, first, first_found, first_none, found_first, none_first}
use Rattle.digits.proofs.Laws.{System, interval, transformation, Small}
use Rattle.cover.proofs.Laws.{covered?, CoverSays, cover_says, one_digit}
use Rattle.expanding.proofs.Laws.{all_expand?, AllExpandSays, all_expand_says, SmallRows}
use Rattle.admission.specs.Types.{Admission, Admitted, Ok, Err, WrongCount, OutOfRange, NotAbove, NotBelow, NotLowest, Uncovered, NotExpanding}
use Rattle.admission.specs.Admission.{refusal_number, refused?, SystemNumber, verdict_of_row, behind_rows, first_verdict, rows_verdict, admission_of}
use Rattle.admission.specs.Admitted.{DigitAt, Digits, Full, Admissible, RowCase, FirstRow, SystemCase}
use Rattle.admission.proofs.Numbers.{not_refused}
use Rattle.admission.proofs.RowSays.{row_says, row_only}

-- ---- rows that are not refused are digits

abbrev refused_at : System → ℕ → Bool
refused_at s a = refused? (verdict_of_row s a)

pub digit_says : (s : System) (a : ℕ) → refused? (verdict_of_row s a) ≡ false → DigitAt s a
digit_says s a e =
    let f = transformation s a in
    let w = interval s a in
    subst (RowCase f w) (not_refused (verdict_of_row s a) e) (row_says f w)

says_digit : (s : System) (a : ℕ) → DigitAt s a → refused? (verdict_of_row s a) ≡ false
says_digit s a d = ap refused? (sym (row_only (transformation s a) (interval s a) Admitted d))

-- their numbers are small, and so the test of the cover says what it should
pub small : (s : System) → Digits s → Small s
small s d = record { small = λ a h. (d a h).in_range.numbers_w }

digits_cover : (s : System) → 1 ≤ s.count → Digits s → CoverSays s
digits_cover s some-digit d = cover_says s some-digit (small s d) (λ a h. (d a h).interval)

-- so are all their numbers, and so the test of the rows says what it should
pub small_rows : (s : System) → Digits s → SmallRows s
small_rows s d = record { numbers_f = λ a h. (d a h).in_range.numbers_f; numbers_w = λ a h. (d a h).in_range.numbers_w }

digits_expand : (s : System) → Digits s → AllExpandSays s
digits_expand s d = all_expand_says s (λ a h. (d a h).above) (λ a h. (d a h).interval)

-- ---- where a sentence holds, its answer is given

-- the count is wrong, and the count is right
pub wrong_count : (s : System) → (s.count ≡ 0) ⊎ (16 < s.count) → Err WrongCount ≡ admission_of s
unfolding admission_of
wrong_count s (inl e) = rw (lt-leb 1 s.count (omega arith))
wrong_count s (inr h) = rw (le-leb 1 s.count (omega arith), lt-leb s.count 16 h)

pub counted : (s : System) → 1 ≤ s.count → s.count ≤ 16 → rows_verdict s ≡ admission_of s
unfolding admission_of
counted s h k = rw (le-leb 1 s.count h, le-leb s.count 16 k)

-- the first row that is refused
first_row : {s : System} (v : Admission) → refused? v ≡ true → FirstRow s v → v ≡ admission_of s
unfolding rows_verdict
first_row {s} v e f =
    let p = row_only (transformation s f.row) (interval s f.row) v f.says in
    let found = found_first (refused_at s) s.count 0 f.row (record {
      from = omega arith;
      below = omega (arith, f.below);
      passes = ap refused? (sym p) ∙ e;
      before = λ b h k. says_digit s b (f.before b k);
    }) in
    p ∙ ap (first_verdict s) (sym found) ∙ counted s f.some_digits f.few_digits

-- no row is refused, and what is asked behind the rows comes out so
all_digits : (s : System) {v : Admission} → v ≡ behind_rows (covered? s) (all_expand? s) → 1 ≤ s.count → s.count ≤ 16 → Digits s → v ≡ admission_of s
unfolding rows_verdict
all_digits s e h k d =
    let none = none_first (refused_at s) s.count 0 (λ a i j. says_digit s a (d a (omega arith))) in
    e ∙ ap (first_verdict s) (sym none) ∙ counted s h k

-- no point is left out: whether every row expands decides
all_covered : (s : System) {t : Bool} → all_expand? s ≡ t → 1 ≤ s.count → s.count ≤ 16 → Digits s → Full s → cond t Admitted (Err NotExpanding) ≡ admission_of s
all_covered s e h k d full = all_digits s (sym (ap₂ behind_rows ((digits_cover s h d).full.1 full) e)) h k d

pub admitted_only : (s : System) (v : Admission) → SystemCase s v → v ≡ admission_of s
admitted_only s (Ok u) c = all_covered s ((digits_expand s c.digits).all.1 c.expand) c.some_digits c.few_digits c.digits c.cover
admitted_only s (Err WrongCount) c = wrong_count s c
admitted_only s (Err OutOfRange) c = first_row (Err OutOfRange) refl c
admitted_only s (Err NotAbove) c = first_row (Err NotAbove) refl c
admitted_only s (Err NotBelow) c = first_row (Err NotBelow) refl c
admitted_only s (Err NotLowest) c = first_row (Err NotLowest) refl c
admitted_only s (Err Uncovered) c =
    let says = digits_cover s c.some_digits c.digits in
    all_digits s (ap (λ (t : Bool). behind_rows t (all_expand? s)) (sym (says.gap.1 (c.z, c.point, c.in_none)))) c.some_digits c.few_digits c.digits
admitted_only s (Err NotExpanding) c =
    all_covered s ((digits_expand s c.digits).one_fails.1 (c.row, c.below, c.fails)) c.some_digits c.few_digits c.digits c.cover
admitted_only s (Err r) c = absurd c

-- ---- and some sentence holds

-- the answer about a row that is refused is the answer about the system
refused_first : {s : System} (v : Admission) → refused? v ≡ true → FirstRow s v → SystemCase s v
refused_first (Ok u) e f = absurd (false≢true e)
refused_first (Err OutOfRange) e f = f
refused_first (Err NotAbove) e f = f
refused_first (Err NotBelow) e f = f
refused_first (Err NotLowest) e f = f
refused_first (Err r) e f = absurd f.says

module _ (s : System) (h : 1 ≤ s.count) (k : s.count ≤ 16) where
  by_expanding : (t : Bool) → all_expand? s ≡ t → Digits s → Full s → (v : Admission) × SystemCase s v
  by_expanding true e d full = (Admitted, record { some_digits = h; few_digits = k; digits = d; cover = full; expand = (digits_expand s d).all.0 e })
  by_expanding false e d full =
      let o = (digits_expand s d).one_fails.0 e in
      (Err NotExpanding, record { some_digits = h; few_digits = k; digits = d; cover = full; row = o.0; below = o.1; fails = o.2 })

  by_cover : (t : Bool) → covered? s ≡ t → Digits s → (v : Admission) × SystemCase s v
  by_cover true e d = by_expanding (all_expand? s) refl d ((digits_cover s h d).full.0 e)
  by_cover false e d =
      let u = (digits_cover s h d).gap.0 e in
      (Err Uncovered, record { some_digits = h; few_digits = k; digits = d; z = u.0; point = u.1; in_none = u.2 })

  by_first : (o : Option ℕ) → first (refused_at s) s.count 0 ≡ o → (v : Admission) × SystemCase s v
  by_first none e = by_cover (covered? s) refl (λ a l. digit_says s a (first_none (refused_at s) s.count 0 e a (omega arith) (omega arith)))
  by_first (some a) e =
      let f = first_found (refused_at s) s.count 0 a e in (
        verdict_of_row s a,
        refused_first (verdict_of_row s a) f.passes (record {
          some_digits = h;
          few_digits = k;
          row = a;
          below = omega (arith, f.below);
          before = λ b l. digit_says s b (f.before b (omega arith) l);
          says = row_says (transformation s a) (interval s a);
        }),
      )

some_case : (s : System) → (v : Admission) × SystemCase s v
some_case s = elim (eq-zero-or-pos s.count) [
  | inl e ↦ (Err WrongCount, inl e)
  | inr h ↦ elim (eq-zero-or-pos (s.count - 16)) [
    | inl e ↦ by_first s h (omega arith) (first (refused_at s) s.count 0) refl
    | inr l ↦ (Err WrongCount, inr (omega arith))
  ]
]

pub admitted_says : (s : System) → SystemCase s (admission_of s)
admitted_says s = let c = some_case s in subst (SystemCase s) (admitted_only s c.0 c.1) c.1

pub admitted_exactly : (s : System) (v : Admission) → (admission_of s ≡ v) ↔ SystemCase s v
admitted_exactly s v = (λ e. subst (SystemCase s) e (admitted_says s), λ c. sym (admitted_only s v c))

-- the answers of a judgement of a system: nothing is refused, or one of seven refusals; and their numbers, 0 or one of those that refuse a system
abbrev pub SystemAnswer : Admission → Type 0
SystemAnswer (Ok u) = Unit {0}
SystemAnswer (Err WrongCount) = Unit {0}
SystemAnswer (Err OutOfRange) = Unit {0}
SystemAnswer (Err NotAbove) = Unit {0}
SystemAnswer (Err NotBelow) = Unit {0}
SystemAnswer (Err NotLowest) = Unit {0}
SystemAnswer (Err Uncovered) = Unit {0}
SystemAnswer (Err NotExpanding) = Unit {0}
SystemAnswer (Err r) = ⊥

pub answer_number : (v : Admission) → SystemAnswer v → (refusal_number v ≡ 0) ⊎ SystemNumber (refusal_number v)
answer_number (Ok u) c = inl refl
answer_number (Err WrongCount) c = inr (inl refl)
answer_number (Err OutOfRange) c = inr (inr (inl (omega arith, omega arith)))
answer_number (Err NotAbove) c = inr (inr (inl (omega arith, omega arith)))
answer_number (Err NotBelow) c = inr (inr (inl (omega arith, omega arith)))
answer_number (Err NotLowest) c = inr (inr (inl (omega arith, omega arith)))
answer_number (Err Uncovered) c = inr (inr (inl (omega arith, omega arith)))
answer_number (Err NotExpanding) c = inr (inr (inr refl))
answer_number (Err r) c = absurd c

case_answer : (s : System) (v : Admission) → SystemCase s v → SystemAnswer v
case_answer s (Ok u) c = tt
case_answer s (Err WrongCount) c = tt
case_answer s (Err OutOfRange) c = tt
case_answer s (Err NotAbove) c = tt
case_answer s (Err NotBelow) c = tt
case_answer s (Err NotLowest) c = tt
case_answer s (Err Uncovered) c = tt
case_answer s (Err NotExpanding) c = tt
case_answer s (Err r) c = c

pub admission_number : (s : System) → (refusal_number (admission_of s) ≡ 0) ⊎ SystemNumber (refusal_number (admission_of s))
admission_number s = answer_number (admission_of s) (case_answer s (admission_of s) (admitted_says s))

-- no two of document 01's sentences hold of one system
pub one_sentence : (s : System) (v w : Admission) → SystemCase s v → SystemCase s w → v ≡ w
one_sentence s v w p q = admitted_only s v p ∙ sym (admitted_only s w q)

-- ---- what an admitted system grants

pub admitted_few : (s : System) → admission_of s ≡ Admitted → s.count ≤ 16
admitted_few s e = ((admitted_exactly s Admitted).0 e).few_digits

pub admitted_digits : (s : System) → admission_of s ≡ Admitted → Digits s
admitted_digits s e = ((admitted_exactly s Admitted).0 e).digits

-- One digit never covers.
pub one_digit_not_admissible : (s : System) → s.count ≡ 1 → Admissible s → ⊥
one_digit_not_admissible s one d =
    let u = (digits_cover s d.some_digits d.digits).gap.0 (one_digit s one) in
    u.2 (d.cover u.0 u.1)

pub one_digit_refused : (s : System) → s.count ≡ 1 → admission_of s ≡ Admitted → ⊥
one_digit_refused s one e = one_digit_not_admissible s one ((admitted_exactly s Admitted).0 e)

-- Two systems with the same digits get the same admission (`same_judgement`), wherever their numbers stand: "what is kept for the digits a system hasn't got .. no answer
-- depends on it", and a system in rows is judged as its columns are (`same_admission`). Where there are more digits than a system can have, these need not even be the same.
--
-- Each row is judged alike, the tests behind the rows meet the same ones (`same_covered`, `same_expand`), and the searches agree on every number that they pass (`first_same`).
use Rattle.whole.proofs.Laws.{◌≡◌, refl, sym, ◌∙◌, ap, ap₂, cond, ◌&&◌, List, inl, inr, Option, none, some, ℕ, ◌-◌, ◌≤◌, ◌<◌, eq-zero-or-pos, arith, leb, ℤ, first, first_found, first_same}
use Rattle.digits.proofs.Laws.{System, SameDigits, as_written, lent, columns_of, same_in_columns}
use Rattle.cover.proofs.Laws.{same_covered}
use Rattle.expanding.proofs.Laws.{same_expand}
use Rattle.admission.specs.Types.{Admission, Err, WrongCount}
use Rattle.admission.specs.Admission.{row_verdict, refused?, verdict_of_row, behind_rows, first_verdict, rows_verdict, admission_of}
use Rattle.admission.proofs.AdmittedSays.{admitted_only}

-- a system with another count
abbrev counted : ℕ → System → System
counted n s = record { count = n; transformation = s.transformation; interval = s.interval }

module _ (s other : System) (same : SameDigits s (counted s.count other)) (few : s.count ≤ 16) where
  abbrev t : System
  t = counted s.count other

  same_verdict : (a : ℕ) → a < s.count → verdict_of_row s a ≡ verdict_of_row t a
  same_verdict a h = ap₂ row_verdict (same.transformations few a h) (same.intervals few a h)

  -- what follows from the row that is found, or from none
  same_after : (o : Option ℕ) → first (λ a. refused? (verdict_of_row s a)) s.count 0 ≡ o → first_verdict s o ≡ first_verdict t o
  same_after none e = ap₂ behind_rows (same_covered s other (same.intervals few)) (same_expand s other (same.transformations few) (same.intervals few))
  same_after (some a) e = same_verdict a (omega (arith, (first_found (λ a. refused? (verdict_of_row s a)) s.count 0 a e).below))

  same_judged : admission_of s ≡ admission_of t
  unfolding admission_of rows_verdict
  same_judged =
      let after = same_after (first (λ a. refused? (verdict_of_row s a)) s.count 0) refl in
      let found = first_same (λ a. refused? (verdict_of_row s a)) (λ a. refused? (verdict_of_row t a)) s.count 0 (λ a i k. ap refused? (same_verdict a (omega arith))) in
      ap (λ (v : Admission). cond (leb 1 s.count && leb s.count 16) v (Err WrongCount)) (after ∙ ap (first_verdict t) found)

pub same_judgement : (s t : System) → SameDigits s t → admission_of s ≡ admission_of t
same_judgement s t same = elim (eq-zero-or-pos (s.count - 16)) [
  | inl e ↦ same_judged s t (record { count = refl; transformations = same.transformations; intervals = same.intervals }) (omega arith) ∙
      ap (λ (n : ℕ). admission_of (counted n t)) same.count
  | inr l ↦ sym (admitted_only s (Err WrongCount) (inr (omega arith))) ∙ admitted_only t (Err WrongCount) (inr (omega (arith, same.count)))
]

-- "admission .. answer[s] the same on both" orders
pub same_admission : (n : ℕ) (rows : List ℤ) → admission_of (as_written n rows) ≡ admission_of (lent n (columns_of rows))
same_admission n rows = same_judgement (as_written n rows) (lent n (columns_of rows)) (same_in_columns n rows)

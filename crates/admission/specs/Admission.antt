-- The judgement of a digit system, as a computation: "System: row by row 6, 7, 8, 9; then 10", behind 3 for the count, and "18, a row not expanding,
-- directly after 10" (document 02). The theorem `admitted_exactly` (proofs/AdmittedSays.antt) proves that each answer is given exactly when its sentence
-- holds, as specs/Admitted.antt states it.
use Rattle.std.specs.Prelude.{◌≡◌, Bool, not, cond, ◌&&◌, List, ◌⊎◌, ℕ, ◌≤◌, leb, eqb, ℤ, pos, nat_abs}
use Rattle.std.proofs.Math.Option.{Option, none, some}
use Rattle.std.specs.Int.Signed.{lt_z}
use Rattle.whole.specs.Range.{at, within?}
use Rattle.whole.specs.Divisor.{gcd, lowest?}
use Rattle.whole.specs.First.{first}
use Rattle.plane.specs.Plane.{determinant_of}
use Rattle.digits.specs.System.{System, transformation, interval}
use Rattle.cover.specs.Cover.{covered?}
use Rattle.expanding.specs.Expanding.{all_expand?}
use Rattle.refusals.specs.Numbers.{outcome_number}
use Rattle.admission.specs.Types.{Admission, Admitted, Err, WrongCount, OutOfRange, NotAbove, NotBelow, NotLowest, Uncovered, NotExpanding}

-- The documents' number for each answer; 0 where nothing is refused.
abbrev pub refusal_number : Admission → ℕ
refusal_number v = outcome_number v

-- "3, 6 to 10", and 18: the numbers that refuse a system
abbrev pub SystemNumber : ℕ → Type 0
SystemNumber n = (n ≡ 3) ⊎ ((6 ≤ n) × (n ≤ 10)) ⊎ (n ≡ 18)

abbrev pub refused? : Admission → Bool
refused? v = not (eqb (refusal_number v) 0)

-- both ends of an interval in lowest terms
abbrev pub lowest_ends? : List ℤ → Bool
lowest_ends? w = eqb (gcd (nat_abs (at w 0)) (nat_abs (at w 1))) 1 && eqb (gcd (nat_abs (at w 2)) (nat_abs (at w 3))) 1

-- "row by row 6, 7, 8, 9": a number out of −100..100, det F ≤ 0, det W ≥ 0, F or an end not in lowest terms
unfoldable pub row_verdict : List ℤ → List ℤ → Admission
row_verdict f w =
    cond (within? 100 f && within? 100 w)
    (cond (lt_z (pos 0) (determinant_of f))
    (cond (lt_z (determinant_of w) (pos 0))
    (cond (lowest? f && lowest_ends? w) Admitted (Err NotLowest))
    (Err NotBelow))
    (Err NotAbove))
    (Err OutOfRange)

abbrev pub verdict_of_row : System → ℕ → Admission
verdict_of_row s a = row_verdict (transformation s a) (interval s a)

-- "then 10", and "18 .. directly after 10": the first row that is refused decides; where none is, the cover does (crates/cover), and where no point is left
-- out, whether every row expands (crates/expanding)
abbrev pub behind_rows : Bool → Bool → Admission
behind_rows covered expanding = cond covered (cond expanding Admitted (Err NotExpanding)) (Err Uncovered)

abbrev pub first_verdict : System → Option ℕ → Admission
first_verdict s none = behind_rows (covered? s) (all_expand? s)
first_verdict s (some a) = verdict_of_row s a

unfoldable pub rows_verdict : System → Admission
rows_verdict s = first_verdict s (first (λ a. refused? (verdict_of_row s a)) s.count 0)

-- "3: a system has 0 or more than 16 digits"; the rows are judged after that
unfoldable pub admission_of : System → Admission
admission_of s = cond (leb 1 s.count && leb s.count 16) (rows_verdict s) (Err WrongCount)

-- The digits of R: each is a digit in document 01's sense, and has determinant 1. So what divides the determinant is 1, and a step of R has nothing to cancel
-- (`divisor_divides`, crates/plane).
use Rattle.whole.proofs.Laws.{◌≡◌, refl, sym, subst₂, true, ℕ, ◌<◌, arith, eqb, eqb-true, nat_abs, every_below?, every_passes, first}
use Rattle.plane.proofs.Laws.{determinant_of}
use Rattle.digits.proofs.Laws.{table_of, rows_r, joined, stored, transformation, transformation_by, four_by, same_in_columns}
use Rattle.admission.specs.Admitted.{Digit, DigitAt}
use Rattle.admission.proofs.Laws.{r_admitted}

pub r_digit : (a : ℕ) → a < 4 → DigitAt (table_of rows_r) a
unfolding stored
r_digit a h =
    let same = same_in_columns 4 (joined rows_r) in
    subst₂ Digit (sym (same.transformations (omega arith) a h)) (sym (same.intervals (omega arith) a h)) (r_admitted.digits a h)

all_one : every_below? (λ a. eqb (nat_abs (determinant_of (transformation (table_of rows_r) a))) 1) 4 ≡ true
unfolding first determinant_of transformation_by four_by
all_one = refl

pub r_determinant : (a : ℕ) → a < 4 → nat_abs (determinant_of (transformation (table_of rows_r) a)) ≡ 1
r_determinant a h = eqb-true _ 1 (every_passes (λ a. eqb (nat_abs (determinant_of (transformation (table_of rows_r) a))) 1) 4 all_one a h)

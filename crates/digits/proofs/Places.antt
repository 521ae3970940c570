-- What follows from the layout, for those who don't know it: where a number stands in columns and in rows.
use Rattle.whole.proofs.Laws.{◌≡◌, refl, sym, ◌∙◌, ap, subst, List, [], ◌∷◌, inl, inr, ℕ, zero, suc, ◌+◌, ◌*◌, ◌-◌, ◌/◌, ◌%◌, ◌≤◌, ◌<◌, eq-zero-or-pos, add-zero, arith, ℤ, length, at, Near, Within}
use Rattle.plane.proofs.Laws.{four_equal}
use native.Mathlib.Nat.{zero-add}
use Rattle.digits.specs.System.{SameDigits}
use Rattle.digits.specs.Orders.{Order, by_row, by_column, four_by, transformation_by, interval_by, system_by, transformation_at, interval_at, Columns, DigitThere, tabulated, row_place, columns_of, column_place, rows_in}

-- ---- lists by what stands at each place

pub tabulated_length : (n : ℕ) (number : ℕ → ℤ) → length (tabulated n number) ≡ n
unfolding tabulated
tabulated_length zero number = refl
tabulated_length (suc n) number = ap suc (tabulated_length n (λ p. number (suc p)))

pub tabulated_at : (n : ℕ) (number : ℕ → ℤ) (p : ℕ) → p < n → at (tabulated n number) p ≡ number p
unfolding tabulated
tabulated_at zero number p h = absurd (omega arith)
tabulated_at (suc n) number zero h = refl
tabulated_at (suc n) number (suc p) h = tabulated_at n (λ p. number (suc p)) p (omega arith)

-- the columns of rows, and the rows of columns

pub columns_length : (rows : List ℤ) → length (columns_of rows) ≡ 128
unfolding columns_of
columns_length rows = tabulated_length 128 (λ p. at rows (row_place p))

pub columns_at : (rows : List ℤ) (p : ℕ) → p < 128 → at (columns_of rows) p ≡ at rows (row_place p)
unfolding columns_of
columns_at rows p h = tabulated_at 128 (λ p. at rows (row_place p)) p h

pub rows_length : (k : ℕ) (columns : List ℤ) → length (rows_in k columns) ≡ k
unfolding rows_in
rows_length k columns = tabulated_length k (λ p. at columns (column_place p))

pub rows_at : (k : ℕ) (columns : List ℤ) (p : ℕ) → p < k → at (rows_in k columns) p ≡ at columns (column_place p)
unfolding rows_in
rows_at k columns p h = tabulated_at k (λ p. at columns (column_place p)) p h

-- number j of digit a
pub number_in_columns : (rows : List ℤ) (j a : ℕ) → j < 8 → a < 16 → at (columns_of rows) (by_column j a) ≡ at rows (by_row j a)
number_in_columns rows j a h k =
    let e : row_place (by_column j a) ≡ by_row j a = omega arith in
    columns_at rows (by_column j a) (omega arith) ∙ ap (at rows) e

pub number_in_rows : (n : ℕ) (columns : List ℤ) (j a : ℕ) → j < 8 → a < n → at (rows_in (8 * n) columns) (by_row j a) ≡ at columns (by_column j a)
number_in_rows n columns j a h k =
    let e : column_place (by_row j a) ≡ by_column j a = omega arith in
    rows_at (8 * n) columns (by_row j a) (omega arith) ∙ ap (at columns) e

-- four numbers of digit a, from number j on: sixteen places apart
pub four_in_columns : (columns : List ℤ) (a j p : ℕ) → p ≡ by_column j a →
    at columns p ∷ at columns (p + 16) ∷ at columns (p + 32) ∷ at columns (p + 48) ∷ [] ≡ four_by by_column columns a j
unfolding four_by
four_in_columns columns a j p e =
    let second : p + 16 ≡ by_column (j + 1) a = omega arith in
    let third : p + 32 ≡ by_column (j + 2) a = omega arith in
    let fourth : p + 48 ≡ by_column (j + 3) a = omega arith in
    four_equal (ap (at columns) e) (ap (at columns) second) (ap (at columns) third) (ap (at columns) fourth)

-- ---- which numbers are there

pub digit_there : {columns : List ℤ} {n a : ℕ} → Columns columns → n ≤ 16 → a < n → DigitThere columns a
digit_there c few l = record { size = c.size; below = omega arith }

-- ---- the same numbers make the same digits, in whatever order each list has them

same_four : (place place' : Order) (r s : List ℤ) (a j : ℕ) → ((i : ℕ) → i < 4 → at r (place (j + i) a) ≡ at s (place' (j + i) a)) → four_by place r a j ≡ four_by place' s a j
unfolding four_by
same_four place place' r s a j same =
    let e : at r (place j a) ≡ at s (place' j a) = rw (add-zero j) at (same 0 (omega arith)) in
    rw (e, same 1 (omega arith), same 2 (omega arith), same 3 (omega arith))

pub same_numbers : (place place' : Order) {n : ℕ} (r s : List ℤ) → (n ≤ 16 → (j a : ℕ) → j < 8 → a < n → at r (place j a) ≡ at s (place' j a)) →
    SameDigits (system_by place n r) (system_by place' n s)
unfolding transformation_by interval_by
same_numbers place place' {n} r s same = record {
  count = refl;
  transformations = λ few a h. same_four place place' r s a 0 (λ i k. same few (0 + i) a (omega arith) h);
  intervals = λ few a h. same_four place place' r s a 4 (λ i k. same few (4 + i) a (omega arith) h);
}

-- ---- every number kept for a digit is one of its eight

four_near : {b : ℕ} (columns : List ℤ) (a j i : ℕ) → Within b (four_by by_column columns a j) → i < 4 → Near b (at columns (by_column (j + i) a))
unfolding four_by
four_near columns a j zero w h = rw (add-zero j) w.n0
four_near columns a j (suc zero) w h = w.n1
four_near columns a j (suc (suc zero)) w h = w.n2
four_near columns a j (suc (suc (suc zero))) w h = w.n3
four_near columns a j (suc (suc (suc (suc i)))) w h = absurd (omega arith)

pub numbers_near : {b : ℕ} (n : ℕ) (columns : List ℤ) → ((a : ℕ) → a < n → Within b (transformation_at columns a) × Within b (interval_at columns a)) →
    (p : ℕ) → p < 8 * n → Near b (at (rows_in (8 * n) columns) p)
unfolding transformation_by interval_by
numbers_near {b} n columns within p h = subst (Near b) (sym (rows_at (8 * n) columns p h)) (elim (eq-zero-or-pos (4 - p % 8)) [
  | inl k ↦ let e : 4 + (p % 8 - 4) ≡ p % 8 = omega arith in subst (λ (j : ℕ). Near b (at columns (by_column j (p / 8)))) e (four_near columns (p / 8) 4 (p % 8 - 4) w.1 (omega arith))
  | inr k ↦ simp zero-add at (four_near columns (p / 8) 0 (p % 8) w.0 (omega arith))
])
  where
    w : Within b (transformation_at columns (p / 8)) × Within b (interval_at columns (p / 8))
    w = within (p / 8) (omega arith)

-- A system that has the rows of a table has the table's digits, whatever stands in unused places; and it has them exactly if it has as many digits, and each its row.
use Rattle.whole.proofs.Laws.{◌≡◌, refl, sym, ap, ◌∙◌, subst, List, [], ◌∷◌, ◌++◌, ℕ, zero, suc, ◌+◌, ◌*◌, ◌/◌, ◌%◌, ◌<◌, arith, length, length-append, get_or, List·getD-append, at, ℤ, pos, same_list}
use Rattle.std.proofs.lemmas.List.{get_or-append-add}
use Rattle.digits.proofs.Laws.{SameDigits, lent, table_of, joined, as_written, by_column, rows_in, rows_length, rows_at, number_in_rows, same_numbers, tabulated_length, tabulated_at}
use Rattle.digits.specs.Orders.{by_row}
use Rattle.built_in.specs.Recognised.{IsTable, row_in}

pub same_as_table : (rows : List (List ℤ)) → length (joined rows) ≡ 8 * length rows → (n : ℕ) (columns : List ℤ) → IsTable rows n columns → SameDigits (lent n columns) (table_of rows)
same_as_table rows size n columns e =
    let count : n ≡ length rows = omega (arith, size, rows_length (8 * n) columns, ap length e) in
    subst (λ (m : ℕ). SameDigits (lent n columns) (as_written m (joined rows))) count
    (same_numbers by_column by_row columns (joined rows) (λ few j a h k. sym (number_in_rows n columns j a h k) ∙ ap (λ (l : List ℤ). at l (by_row j a)) e))

-- ---- number j of a digit's row

pub row_number : (columns : List ℤ) (a j : ℕ) → j < 8 → at (row_in columns a) j ≡ at columns (by_column j a)
unfolding row_in
row_number columns a j h = tabulated_at 8 (λ j. at columns (by_column j a)) j h

pub row_length : (columns : List ℤ) (a : ℕ) → length (row_in columns a) ≡ 8
unfolding row_in
row_length columns a = tabulated_length 8 (λ j. at columns (by_column j a))

pub same_row : (columns : List ℤ) (a : ℕ) (row : List ℤ) → length row ≡ 8 → ((j : ℕ) → j < 8 → at columns (by_column j a) ≡ at row j) → row_in columns a ≡ row
same_row columns a row size same =
    same_list (row_in columns a) row (row_length columns a ∙ sym size) (λ j h. let k : j < 8 = omega (arith, row_length columns a) in row_number columns a j k ∙ same j k)

-- ---- a table whose rows have eight numbers each

abbrev pub Eights : List (List ℤ) → Type 0
Eights rows = (a : ℕ) → a < length rows → length (get_or rows a []) ≡ 8

joined_length : (rows : List (List ℤ)) → Eights rows → length (joined rows) ≡ 8 * length rows
joined_length [] e = refl
joined_length (r ∷ rows) e = omega (arith, length-append r (joined rows), e 0 (omega arith), joined_length rows (λ a h. e (suc a) (omega arith)))

joined_at : (rows : List (List ℤ)) → Eights rows → (a j : ℕ) → a < length rows → j < 8 → at (joined rows) (by_row j a) ≡ at (get_or rows a []) j
joined_at [] e a j h k = absurd (omega arith)
joined_at (r ∷ rows) e zero j h k = let place : by_row j 0 ≡ j = omega arith in List·getD-append r (joined rows) (pos 0) (by_row j 0) (omega (arith, e 0 (omega arith))) ∙ ap (at r) place
joined_at (r ∷ rows) e (suc a) j h k =
    let place : by_row j (suc a) ≡ length r + by_row j a = omega (arith, e 0 (omega arith)) in
    ap (at (r ++ joined rows)) place ∙ get_or-append-add r (joined rows) (by_row j a) (pos 0) ∙ joined_at rows (λ a h. e (suc a) (omega arith)) a j (omega arith) k

module _ (rows : List (List ℤ)) (columns : List ℤ) (e : Eights rows) where
  abbrev Rows : Type 0
  Rows = (a : ℕ) → a < length rows → row_in columns a ≡ get_or rows a []

  pub rows_make : Rows → IsTable rows (length rows) columns
  rows_make w =
      let n = length rows in
      same_list (rows_in (8 * n) columns) (joined rows) (rows_length (8 * n) columns ∙ sym (joined_length rows e)) (λ p h.
      let below : p / 8 < n = omega (arith, rows_length (8 * n) columns) in
      let j : p % 8 < 8 = omega arith in
      let place : by_row (p % 8) (p / 8) ≡ p = omega arith in
      rows_at (8 * n) columns p (omega (arith, rows_length (8 * n) columns)) ∙ sym (row_number columns (p / 8) (p % 8) j) ∙ ap (λ (l : List ℤ). at l (p % 8)) (w (p / 8) below) ∙
      sym (joined_at rows e (p / 8) (p % 8) below j) ∙ ap (at (joined rows)) place)

  pub make_rows : IsTable rows (length rows) columns → Rows
  make_rows t a h = same_row columns a (get_or rows a []) (e a h) (λ j k.
      sym (number_in_rows (length rows) columns j a k h) ∙ ap (λ (l : List ℤ). at l (by_row j a)) t ∙ joined_at rows e a j h k)

  pub only_count : (n : ℕ) → IsTable rows n columns → n ≡ length rows
  only_count n t = omega (arith, joined_length rows e, rows_length (8 * n) columns, ap length t)

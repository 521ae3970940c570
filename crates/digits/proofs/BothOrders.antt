-- "Each system in the old order has exactly one in the new": rows and columns of the same digits, number for number (`one_in_columns`). What is turned into columns and
-- back is what it was (`rows_again`), and the other way round where unused places are 0 (`columns_again`).
use Rattle.whole.proofs.Laws.{◌≡◌, sym, ◌∙◌, ap, List, ℕ, ◌*◌, ◌/◌, ◌%◌, ◌≤◌, ◌<◌, dec_lt, arith, ℤ, pos, length, List·getD-eq-default, at, same_list}
use Rattle.digits.specs.System.{SameDigits}
use Rattle.digits.specs.Orders.{by_row, by_column, as_written, lent, columns_of, rows_in, InRows, InColumns, SameNumbers, OneInColumns}
use Rattle.digits.proofs.Places.{columns_length, rows_length, number_in_columns, number_in_rows, same_numbers}

-- behind the last row stands 0
behind : {n : ℕ} (rows : List ℤ) → length rows ≡ 8 * n → (j a : ℕ) → n ≤ a → at rows (by_row j a) ≡ pos 0
behind {n} rows e j a h = List·getD-eq-default rows (pos 0) {n = by_row j a} (omega arith)

-- two lists of columns that hold the same numbers, and 0 in unused places, are the same
only_columns : {n : ℕ} {columns columns' : List ℤ} → n ≤ 16 → InColumns n columns → InColumns n columns' →
    ((j a : ℕ) → j < 8 → a < n → at columns (by_column j a) ≡ at columns' (by_column j a)) → columns ≡ columns'
only_columns {n} {columns} {columns'} few c d same = same_list columns columns' (c.size ∙ sym d.size) (λ p h.
    let j : p / 16 < 8 = omega (arith, c.size) in
    let e : by_column (p / 16) (p % 16) ≡ p = omega arith in
    let number : at columns (by_column (p / 16) (p % 16)) ≡ at columns' (by_column (p / 16) (p % 16)) = elim (dec_lt (p % 16) n) [
      | yes k ↦ same (p / 16) (p % 16) j k
      | no k ↦ c.unused (p / 16) (p % 16) j (omega arith) (omega arith) ∙ sym (d.unused (p / 16) (p % 16) j (omega arith) (omega arith))
    ] in
    ap (at columns) (sym e) ∙ number ∙ ap (at columns') e)

-- and two lists of rows
only_rows : {n : ℕ} {rows rows' : List ℤ} → InRows n rows → InRows n rows' → ((j a : ℕ) → j < 8 → a < n → at rows (by_row j a) ≡ at rows' (by_row j a)) → rows ≡ rows'
only_rows {n} {rows} {rows'} r s same = same_list rows rows' (r.size ∙ sym s.size) (λ p h.
    let e : by_row (p % 8) (p / 8) ≡ p = omega arith in
    ap (at rows) (sym e) ∙ same (p % 8) (p / 8) (omega arith) (omega (arith, r.size)) ∙ ap (at rows') e)

pub columns_same : {n : ℕ} → n ≤ 16 → (rows : List ℤ) → InRows n rows → SameNumbers n rows (columns_of rows)
columns_same {n} few rows r = record {
  in_rows = r;
  in_columns = record { size = columns_length rows; unused = λ j a h k l. number_in_columns rows j a h l ∙ behind rows r.size j a k };
  same = λ j a h k. number_in_columns rows j a h (omega arith);
}

pub rows_same : {n : ℕ} (columns : List ℤ) → InColumns n columns → SameNumbers n (rows_in (8 * n) columns) columns
rows_same {n} columns c = record { in_rows = record { size = rows_length (8 * n) columns }; in_columns = c; same = λ j a h k. sym (number_in_rows n columns j a h k) }

pub one_in_columns : (n : ℕ) → n ≤ 16 → OneInColumns n
one_in_columns n few = record {
  has = columns_same few;
  no_other = λ rows columns s. let t = columns_same few rows s.in_rows in only_columns few s.in_columns t.in_columns (λ j a h k. s.same j a h k ∙ sym (t.same j a h k));
  back = rows_same;
  no_other_back = λ rows columns s. let t = rows_same columns s.in_columns in only_rows s.in_rows t.in_rows (λ j a h k. sym (s.same j a h k) ∙ t.same j a h k);
}

-- ---- there and back

pub rows_again : {n : ℕ} → n ≤ 16 → (rows : List ℤ) → length rows ≡ 8 * n → rows_in (8 * n) (columns_of rows) ≡ rows
rows_again {n} few rows e = sym ((one_in_columns n few).no_other_back rows (columns_of rows) (columns_same few rows (record { size = e })))

pub columns_again : {n : ℕ} → n ≤ 16 → (columns : List ℤ) → InColumns n columns → columns_of (rows_in (8 * n) columns) ≡ columns
columns_again {n} few columns c = sym ((one_in_columns n few).no_other (rows_in (8 * n) columns) columns (rows_same columns c))

-- ---- the same digits in both

pub same_in_columns : (n : ℕ) (rows : List ℤ) → SameDigits (as_written n rows) (lent n (columns_of rows))
same_in_columns n rows = same_numbers by_row by_column rows (columns_of rows) (λ few j a h k. sym (number_in_columns rows j a h (omega arith)))

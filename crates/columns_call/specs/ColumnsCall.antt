-- What turning a system from one order into the other answers, and what every lent number is afterwards, for all inputs: "40 for a wrong length (rows: a
-- multiple of 8, exactly 8·digits for sled_rows), then 3 for 0 or more than 16 digits; nothing written on a refusal; unused places 0."
use Rattle.std.specs.Prelude.{◌≡◌, Bool, cond, ◌&&◌, List, ℕ, ◌*◌, ◌/◌, ◌%◌, ◌<◌, eqb, leb, length, ℤ}
use Rattle.whole.specs.Range.{at}
use Rattle.whole.specs.Refusal.{unless_refused}
use Rattle.digits.specs.Types.{StoredSystem}
use Rattle.digits.specs.Orders.{by_column, columns_of, rows_of, InColumns}
use Rattle.numbers.specs.Numbers.{lent_system, columns?, wrong_length, Wrote, wrote}

-- "3: a system has 0 or more than 16 digits"
abbrev pub turn_number : Bool → ℕ → ℕ
turn_number lengths digits = cond lengths (cond (leb 1 digits && leb digits 16) 0 3) wrong_length

-- rows into columns: as many digits as there are rows
abbrev pub columns_lengths? : List ℤ → List ℤ → Bool
columns_lengths? rows old = eqb (length rows % 8) 0 && columns? old

unfoldable pub columns_call_of : List ℤ → List ℤ → Wrote
columns_call_of rows old = unless_refused (turn_number (columns_lengths? rows old) (length rows / 8)) (λ n. wrote n old) (wrote 0 (columns_of rows))

-- columns into rows: as many rows as there are digits
abbrev pub rows_lengths? : StoredSystem → List ℤ → Bool
rows_lengths? s old = columns? s.columns && eqb (length old) (8 * s.count)

unfoldable pub rows_call : StoredSystem → List ℤ → Wrote
rows_call s old = unless_refused (turn_number (rows_lengths? s old) s.count) (λ n. wrote n old) (wrote 0 (rows_of s))

-- ---- "They undo each other": into slices of the right length

pub record UndoEachOther : Type 0 where
  -- rows that were turned into columns are turned back
  pub rows : (rows old room : List ℤ) → (columns_call_of rows old).number ≡ 0 → length room ≡ length rows →
      rows_call (lent_system (length rows / 8) (columns_call_of rows old).numbers) room ≡ wrote 0 rows
  -- so are columns, where unused places are 0
  pub columns : (s : StoredSystem) (old room : List ℤ) → (rows_call s old).number ≡ 0 → InColumns s.count s.columns → length room ≡ 128 →
      columns_call_of (rows_call s old).numbers room ≡ wrote 0 s.columns
  -- whatever stands there, they are 0 then, and each number of a digit is what it was
  pub cleared : (s : StoredSystem) (old room : List ℤ) → (rows_call s old).number ≡ 0 → length room ≡ 128 →
      let r = columns_call_of (rows_call s old).numbers room in
      (r.number ≡ 0) × InColumns s.count r.numbers ×
      ((j a : ℕ) → j < 8 → a < s.count → at r.numbers (by_column j a) ≡ at s.columns (by_column j a))

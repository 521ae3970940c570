-- What a turning finds and leaves where its number is 0: the lengths are right, a system can have as many digits, and all numbers are written.
use Rattle.whole.proofs.Laws.{◌≡◌, refl, Bool, true, false, cond, ◌&&◌, List, ℕ, ◌*◌, ◌/◌, ◌%◌, ◌≤◌, arith, eqb, leb, le-leb, eqb-true, eq-eqb, both_true, true_both, length, ℤ, passed}
use borrow.Author.Tests.{leb-true}
use Rattle.digits.proofs.Laws.{StoredSystem, columns_of, rows_of}
use Rattle.numbers.proofs.Laws.{wrote, written_0}
use Rattle.numbers.specs.Numbers.{columns?}
use Rattle.columns_call.specs.ColumnsCall.{turn_number, columns_lengths?, columns_call_of, rows_lengths?, rows_call}

-- a system can have so many digits
pub record Few (digits : ℕ) : Type 0 where
  pub some : 1 ≤ digits
  pub few : digits ≤ 16

turn_0 : (lengths : Bool) (digits : ℕ) → turn_number lengths digits ≡ 0 → (lengths ≡ true) × Few digits
turn_0 false digits e = absurd (omega arith)
turn_0 true digits e = (refl, by (leb 1 digits && leb digits 16) refl e)
  where
    by : (t : Bool) → (leb 1 digits && leb digits 16) ≡ t → ◌≡◌ {A = ℕ} (cond t 0 3) 0 → Few digits
    by true b z = let p = both_true (leb 1 digits) (leb digits 16) b in record { some = leb-true 1 digits p.0; few = leb-true digits 16 p.1 }
    by false b z = absurd (omega arith)

0-turn : {lengths : Bool} {digits : ℕ} → lengths ≡ true → 1 ≤ digits → digits ≤ 16 → turn_number lengths digits ≡ 0
0-turn {digits = digits} e some few = rw (e, le-leb 1 digits some, le-leb digits 16 few)

-- ---- rows into columns

pub record ColumnsTurned (rows old : List ℤ) : Type 0 where
  pub whole : length rows ≡ 8 * (length rows / 8)
  pub few : Few (length rows / 8)
  pub room : length old ≡ 128
  pub is : columns_call_of rows old ≡ wrote 0 (columns_of rows)

pub columns_turned : (rows old : List ℤ) → (columns_call_of rows old).number ≡ 0 → ColumnsTurned rows old
unfolding columns_call_of
columns_turned rows old e =
    let z = (written_0 (turn_number (columns_lengths? rows old) (length rows / 8)) old (columns_of rows) e).0 in
    let t = turn_0 (columns_lengths? rows old) (length rows / 8) z in
    let p = both_true (eqb (length rows % 8) 0) (columns? old) t.0 in
    record { whole = omega (arith, eqb-true (length rows % 8) 0 p.0); few = t.1; room = eqb-true (length old) 128 p.1; is = passed _ _ z }

pub turned_columns : (rows old : List ℤ) {n : ℕ} → length rows ≡ 8 * n → 1 ≤ n → n ≤ 16 → length old ≡ 128 → columns_call_of rows old ≡ wrote 0 (columns_of rows)
unfolding columns_call_of
turned_columns rows old {n} e some few room =
    let whole : length rows % 8 ≡ 0 = omega arith in
    passed _ _ (0-turn {digits = length rows / 8} (true_both (eq-eqb (length rows % 8) 0 whole) (eq-eqb (length old) 128 room)) (omega arith) (omega arith))

-- ---- columns into rows

pub record RowsTurned (s : StoredSystem) (old : List ℤ) : Type 0 where
  pub columns : length s.columns ≡ 128
  pub few : Few s.count
  pub room : length old ≡ 8 * s.count
  pub is : rows_call s old ≡ wrote 0 (rows_of s)

pub rows_turned : (s : StoredSystem) (old : List ℤ) → (rows_call s old).number ≡ 0 → RowsTurned s old
unfolding rows_call
rows_turned s old e =
    let z = (written_0 (turn_number (rows_lengths? s old) s.count) old (rows_of s) e).0 in
    let t = turn_0 (rows_lengths? s old) s.count z in
    let p = both_true (columns? s.columns) (eqb (length old) (8 * s.count)) t.0 in
    record { columns = eqb-true (length s.columns) 128 p.0; few = t.1; room = eqb-true (length old) (8 * s.count) p.1; is = passed _ _ z }

pub turned_rows : (s : StoredSystem) (old : List ℤ) → length s.columns ≡ 128 → 1 ≤ s.count → s.count ≤ 16 → length old ≡ 8 * s.count → rows_call s old ≡ wrote 0 (rows_of s)
unfolding rows_call
turned_rows s old e some few room = passed _ _ (0-turn (true_both (eq-eqb (length s.columns) 128 e) (eq-eqb (length old) (8 * s.count) room)) some few)

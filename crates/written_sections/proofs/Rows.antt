-- The row of a digit: what it has, that it is the next eight numbers of the rows, and what is written with it.
use Rattle.whole.proofs.Laws.{◌≡◌, sym, ap, ◌∙◌, List, ◌++◌, ℕ, ◌+◌, ◌*◌, ◌-◌, ◌<◌, arith, length, take, drop, take-add, get_or-take, length-drop, length-take-le, ℤ, pos, at, same_list, written, put_behind}
use lib.Seq.{get_or-drop}
use Rattle.digits.proofs.Laws.{column_place, rows_in, rows_length, rows_at, tabulated_length, tabulated_at}
use borrow.Rule.Slice.PartMut.{put_mid}
use Rattle.job_sections.proofs.Laws.{numbers_bytes, numbers_bytes_length}
use Rattle.written_sections.specs.Filled.{row_of}
use Rattle.written_sections.proofs.Numbers.{Begun, numbers_more}

pub row_length : (columns : List ℤ) (a : ℕ) → length (row_of columns a) ≡ 8
unfolding row_of
row_length columns a = tabulated_length 8 (λ j. at columns (column_place (8 * a + j)))

pub row_at : (columns : List ℤ) (a j : ℕ) → j < 8 → at (row_of columns a) j ≡ at columns (column_place (8 * a + j))
unfolding row_of
row_at columns a j h = tabulated_at 8 (λ j. at columns (column_place (8 * a + j))) j h

pub next_row : (columns : List ℤ) (n a : ℕ) → a < n → row_of columns a ≡ take 8 (drop (8 * a) (rows_in (8 * n) columns))
next_row columns n a h =
    let rows = rows_in (8 * n) columns in
    let size = rows_length (8 * n) columns in
    let eight : length (take 8 (drop (8 * a) rows)) ≡ 8 = length-take-le 8 (drop (8 * a) rows) (omega (arith, size, length-drop (8 * a) rows)) in
    same_list (row_of columns a) (take 8 (drop (8 * a) rows)) (row_length columns a ∙ sym eight) (λ j k.
    let l : j < 8 = omega (arith, k, row_length columns a) in
    row_at columns a j l ∙ sym (get_or-take 8 (drop (8 * a) rows) j (pos 0) l ∙ get_or-drop (8 * a) rows j (pos 0) ∙ rows_at (8 * n) columns (8 * a + j) (omega arith)))

-- one row more, written into the rest behind the rows before it
pub row_more : (columns : List ℤ) {old out rest : List ℕ} {n a : ℕ} → Begun (rows_in (8 * n) columns) old (8 * a) out → a < n →
    rest ≡ written (numbers_bytes (row_of columns a)) (take (length out - 16 * a) (drop (16 * a) out)) →
    Begun (rows_in (8 * n) columns) old (8 * (a + 1)) (put_mid (16 * a) (length out - 16 * a) out rest)
row_more columns {old} {out} {rest} {n} {a} b h r =
    let rows = rows_in (8 * n) columns in
    let size = rows_length (8 * n) columns in
    let front = numbers_bytes (take (8 * a) rows) in
    let before : length front ≡ 16 * a = omega (arith, numbers_bytes_length (take (8 * a) rows), length-take-le (8 * a) rows (omega (arith, size))) in
    let e : 8 * a + 8 ≡ 8 * (a + 1) = omega arith in
    let next : front ++ numbers_bytes (row_of columns a) ≡ numbers_bytes (take (8 * (a + 1)) rows) =
    sym (numbers_more (take (8 * a) rows) (row_of columns a)) ∙
    ap numbers_bytes (ap (λ (l : List ℤ). take (8 * a) rows ++ l) (next_row columns n a h) ∙ sym (take-add (8 * a) 8 rows) ∙ ap (λ (k : ℕ). take k rows) e) in
    let is = put_behind front (numbers_bytes (row_of columns a)) old b.is before r ∙ ap (λ (x : List ℕ). written x old) next in
    record { is = is }

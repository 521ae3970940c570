-- "They undo each other": rows that are turned into columns are turned back, and columns too, where unused places are 0.
use Rattle.whole.proofs.Laws.{◌≡◌, ap, sym, ◌∙◌, subst, List, ◌*◌, ◌/◌, length, ℤ, at}
use Rattle.digits.proofs.Laws.{StoredSystem, columns_of, rows_of, rows_length, columns_length, rows_again, columns_again, one_in_columns, number_in_rows, InColumns, by_column}
use Rattle.numbers.proofs.Laws.{wrote, lent_system}
use Rattle.numbers.specs.Numbers.{Wrote}
use Rattle.columns_call.specs.ColumnsCall.{columns_call_of, rows_call, UndoEachOther}
use Rattle.columns_call.proofs.Turned.{columns_turned, turned_columns, rows_turned, turned_rows}

-- what columns become, turned into rows and back
there_and_back : (s : StoredSystem) (old room : List ℤ) → (rows_call s old).number ≡ 0 → length room ≡ 128 → columns_call_of (rows_call s old).numbers room ≡ wrote 0 (columns_of (rows_of s))
there_and_back s old room e l =
    let t = rows_turned s old e in
    ap (λ (w : Wrote). columns_call_of w.numbers room) t.is ∙ turned_columns (rows_of s) room (rows_length (8 * s.count) s.columns) t.few.some t.few.few l

pub columns_back : UndoEachOther
columns_back = record {
  rows = λ rows old room e l.
      let t = columns_turned rows old e in
      let n = length rows / 8 in
      ap (λ (w : Wrote). rows_call (lent_system n w.numbers) room) t.is ∙
      turned_rows (lent_system n (columns_of rows)) room (columns_length rows) t.few.some t.few.few (l ∙ t.whole) ∙
      ap (wrote 0) (rows_again t.few.few rows t.whole);
  columns = λ s old room e unused l. there_and_back s old room e l ∙ ap (wrote 0) (columns_again (rows_turned s old e).few.few s.columns unused);
  cleared = λ s old room e l.
      let t = rows_turned s old e in
      let again = there_and_back s old room e l in
      let same = (one_in_columns s.count t.few.few).has (rows_of s) (record { size = rows_length (8 * s.count) s.columns }) in (
        ap (λ (w : Wrote). w.number) again,
        subst (λ (w : Wrote). InColumns s.count w.numbers) (sym again) same.in_columns,
        λ j a h k. ap (λ (w : Wrote). at w.numbers (by_column j a)) again ∙ same.same j a h k ∙ number_in_rows s.count s.columns j a h k,
      );
}

-- `columns_call::columns` meets its contract: a wrong length is refused, then a count that no system has, and else the columns are written.
use Rattle.whole.proofs.Laws.{◌≡◌, sym, ap, ◌∙◌, true, List, ◌/◌, ◌%◌, ℤ, length, eq-eqb, ne_eqb, unless_refused, passed}
use Rattle.digits.proofs.Laws.{columns_of}
use Rattle.numbers.proofs.Laws.{wrote, refused_by}
use Rattle.columns_call.specs.ColumnsCall.{turn_number, columns_call_of}
use Rattle.columns_call.proofs.columns.Goals.{then-rows-ne0-via-then-rows-ne0, then-rows-ne0-via-else-rows-ne0+then-columns-ne128}
use Rattle.columns_call.proofs.columns.Goals as goal

pub returns-then-rows-ne0 : goal.returns-then-rows-ne0
unfolding columns_call_of unless_refused
returns-then-rows-ne0 c = elim c.then-rows-ne0.branch [
  | then-rows-ne0-via-then-rows-ne0 w ↦ rw (ne_eqb _ _ w.if-rows-ne0.true)
  | then-rows-ne0-via-else-rows-ne0+then-columns-ne128 w ↦ rw (eq-eqb _ _ w.if-rows-ne0.false, ne_eqb _ _ w.if-columns-ne128.true)
]

-- where the lengths are right, the count decides
judged : (rows old : List ℤ) → length rows % 8 ≡ 0 → length old ≡ 128 →
    columns_call_of rows old ≡ unless_refused (turn_number true (length rows / 8)) (λ k. wrote k old) (wrote 0 (columns_of rows))
unfolding columns_call_of
judged rows old whole room = rw (eq-eqb (length rows % 8) 0 whole, eq-eqb (length old) 128 room)

pub returns-in-Err : goal.returns-in-Err
returns-in-Err c =
    sym (judged _ _ c.if-rows-ne0.false c.if-columns-ne128.false
    ∙ rw (← c.in-Err.ensures) (refused_by c.in-Err.refusal _ _ (c.from.ensures ∙ c.number.ensures)))

pub returns : goal.returns
returns c = ap (wrote 0) c.in_columns.ensures ∙ sym (judged _ _ c.if-rows-ne0.false c.if-columns-ne128.false ∙ passed _ _ (sym c.in_default.ensures))

-- `columns_call::rows` meets its contract: a wrong length is refused, then a count that no system has, and else the rows are written.
use Rattle.whole.proofs.Laws.{◌≡◌, sym, ap, ◌∙◌, true, List, ℕ, ◌*◌, ◌/◌, ◌%◌, ℤ, arith, eq-eqb, ne_eqb, length, unless_refused, passed}
use Rattle.digits.proofs.Laws.{rows_in, rows_of}
use Rattle.numbers.proofs.Laws.{lent_system, wrote, refused_by}
use Rattle.columns_call.specs.ColumnsCall.{turn_number, rows_call}
use Rattle.columns_call.proofs.rows.Goals.{then-columns-ne128-via-then-columns-ne128, then-columns-ne128-via-else-columns-ne128+then-rows-ne0, then-columns-ne128-via-else-columns-ne128+else-rows-ne0+then-rows-digits}
use Rattle.columns_call.proofs.rows.Goals as goal

pub returns-then-columns-ne128 : goal.returns-then-columns-ne128
unfolding rows_call unless_refused
returns-then-columns-ne128 c =
    let a = c.args in elim c.then-columns-ne128.branch [
      | then-columns-ne128-via-then-columns-ne128 w ↦ rw (ne_eqb _ _ w.if-columns-ne128.true)
      | then-columns-ne128-via-else-columns-ne128+then-rows-ne0 w ↦ rw (eq-eqb _ _ w.if-columns-ne128.false, ne_eqb (length a.rows.now) (8 * a.digits) (λ e. w.if-rows-ne0.true (omega (arith, e))))
      | then-columns-ne128-via-else-columns-ne128+else-rows-ne0+then-rows-digits w ↦ rw (eq-eqb _ _ w.if-columns-ne128.false, ne_eqb (length a.rows.now) (8 * a.digits) (λ e. w.if-rows-digits.true (omega (arith, e))))
    ]

-- where the lengths are right, the count decides
judged : (digits : ℕ) (columns old : List ℤ) → length columns ≡ 128 → length old % 8 ≡ 0 → length old / 8 ≡ digits → let s = lent_system digits columns in
    (length old ≡ 8 * digits) × (rows_call s old ≡ unless_refused (turn_number true digits) (λ k. wrote k old) (wrote 0 (rows_of s)))
unfolding rows_call
judged digits columns old size whole part =
    let room : length old ≡ 8 * digits = omega arith in
    (room, rw (eq-eqb (length columns) 128 size, eq-eqb (length old) (8 * digits) room))

pub returns-in-Err : goal.returns-in-Err
returns-in-Err c =
    sym ((judged _ _ _ c.if-columns-ne128.false c.if-rows-ne0.false c.if-rows-digits.false).1
    ∙ rw (← c.in-Err.ensures) (refused_by c.in-Err.refusal _ _ (c.from.ensures ∙ c.number.ensures)))

pub returns : goal.returns
returns c =
    let j = judged _ _ _ c.if-columns-ne128.false c.if-rows-ne0.false c.if-rows-digits.false in
    ap (wrote 0) (c.in_rows.ensures ∙ ap (λ (k : ℕ). rows_in k c.args.columns.now) j.0) ∙ sym (j.1 ∙ passed _ _ (sym c.in_default.ensures))

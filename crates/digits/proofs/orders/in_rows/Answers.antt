-- `digits::orders::in_rows` meets its contract. The invariant: the first p numbers of the rows are written.
use Rattle.whole.proofs.Laws.{sym, ap, ◌∙◌, arith, length, at, element_16, copied, copy_one}
use mir.Facts.{to_z-of_z}
use Rattle.digits.proofs.Places.{rows_length, rows_at}
use Rattle.std.proofs.Common.{rules}
use Rattle.digits.proofs.orders.in_rows.Goals as goal

pub loop-p-preserved : goal.loop-p-preserved
loop-p-preserved c =
    let l = c.loop-p in
    let a = c.args in
    let size = rows_length (length a.rows.now) a.columns.now in
    let below = c.loop-p-test.true in
    copy_one l.invariant (omega (arith, below)) (omega (arith, size, below))
    (to_z-of_z (element_16 _ (search rules)) ∙ ap (at a.columns.now) c.column_place.ensures ∙ sym (rows_at _ a.columns.now l.p (omega (arith, below))))

pub returns : goal.returns
returns c =
    let a = c.args in
    copied c.loop-p.invariant (omega (arith, c.loop-p-test.false)) (rows_length (length a.rows.now) a.columns.now)

-- `written_sections::put_rows` meets its contract. The invariant: the rows of the first a digits are written.
use Rattle.whole.proofs.Laws.{◌*◌, arith}
use Rattle.digits.proofs.Laws.{rows_length}
use Rattle.written_sections.proofs.Numbers.{all_begun}
use Rattle.written_sections.proofs.Rows.{row_more}
use Rattle.written_sections.proofs.put_rows.Goals as goal

pub loop-a-preserved : goal.loop-a-preserved
loop-a-preserved c = row_more c.args.columns.now c.loop-a.invariant c.loop-a-test.true c.put_row.ensures

pub returns : goal.returns
returns c = let a = c.args in all_begun c.loop-a.invariant (omega (arith, rows_length (8 * a.count) a.columns.now, c.loop-a-test.false))

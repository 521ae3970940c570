-- `written_sections::put_rows` meets its contract. The invariant: the rows of the first a digits are written.
use Rattle.whole.proofs.Laws.{◌*◌}
use Rattle.digits.proofs.Laws.{rows_in}
use Rattle.written_sections.proofs.Numbers.{Begun}
use Rattle.written_sections.proofs.put_rows.Given as goal

abbrev pub invariant-loop-a : goal.invariant-loop-a
invariant-loop-a l = Begun (rows_in (8 * l.count) l.columns) l.initial.out (8 * l.a) l.out

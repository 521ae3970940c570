-- `digits::orders::in_rows` meets its contract. The invariant: the first p numbers of the rows are written.
use Rattle.whole.proofs.Laws.{length, Copied}
use Rattle.digits.specs.Orders.{rows_in}
use Rattle.digits.proofs.orders.in_rows.Given as goal

abbrev pub invariant-loop-p : goal.invariant-loop-p
invariant-loop-p l = Copied (rows_in (length l.initial.rows) l.columns) l.initial.rows l.p l.rows

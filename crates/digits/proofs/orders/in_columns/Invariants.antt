-- `digits::orders::in_columns` meets its contract. The invariant: the first p numbers of the columns are written.
use Rattle.whole.proofs.Laws.{Copied}
use Rattle.digits.specs.Orders.{columns_of}
use Rattle.digits.proofs.orders.in_columns.Given as goal

abbrev pub invariant-loop-p : goal.invariant-loop-p
invariant-loop-p l = Copied (columns_of l.rows) l.initial.columns l.p l.columns

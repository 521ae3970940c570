-- `admission::rows_verdict` meets its contract: a search for the first row that is refused; where there is none, every number is small enough for the tests of the cover and of expanding.
use Rattle.whole.proofs.Laws.{Bool, ℕ, Standing}
use Rattle.digits.proofs.Laws.{System}
use Rattle.admission.specs.Admission.{refused?, verdict_of_row}
use Rattle.digits.specs.Orders.{viewed}
use Rattle.admission.proofs.rows_verdict.Given as goal

abbrev pub test : System → ℕ → Bool
test s a = refused? (verdict_of_row s a)

abbrev pub invariant-loop-a : goal.invariant-loop-a
invariant-loop-a l = Standing (test (viewed l.system)) l.system.count l.a

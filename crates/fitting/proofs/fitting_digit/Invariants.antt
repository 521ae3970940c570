-- `fitting::fitting_digit` meets its contract: "Some U_b includes X·W_held: let b be the smallest", a search for the first digit that fits.
use Rattle.whole.proofs.Laws.{Standing}
use Rattle.fitting.specs.FirstFit.{fits?}
use Rattle.digits.specs.Orders.{viewed}
use Rattle.fitting.proofs.fitting_digit.Given as goal

abbrev pub invariant-loop-b : goal.invariant-loop-b
invariant-loop-b l = Standing (fits? (viewed l.outputs) l.image) l.outputs.count l.b

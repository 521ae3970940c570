-- `giving::giving_digit` meets its contract: where some image is (0, 0) no digit passes, and otherwise it is a search for the first digit whose coefficients lie on one side.
use Rattle.whole.proofs.Laws.{Standing}
use Rattle.giving.specs.MayGive.{columns_of_form}
use Rattle.giving.proofs.FirstGiven.{gives?}
use Rattle.digits.specs.Orders.{viewed}
use Rattle.giving.proofs.giving_digit.Given as goal

abbrev pub invariant-loop-c : goal.invariant-loop-c
invariant-loop-c l = Standing (gives? (viewed l.outputs) (columns_of_form l.images)) l.outputs.count l.c

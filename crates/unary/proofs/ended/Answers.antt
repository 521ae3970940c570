-- `unary::ended` meets its contract.
use Rattle.whole.proofs.Laws.{ap, ℕ, ◌+◌, ◌-◌, arith}
use Rattle.states.proofs.Laws.{one_held}
use Rattle.unary.specs.Run.{answered}
use Rattle.unary.proofs.ended.Goals as goal

pub returns : goal.returns
returns c = let a = c.args in ap (λ (n : ℕ). answered a.stop a.i a.o (a.i + a.o + 1 - n - a.k) a.state) c.held_count.ensures

pub overflow_sub-result : goal.overflow_sub-result
overflow_sub-result c = omega (arith, c.held_count.ensures, one_held c.args.state.held)

-- `unary::run_judged` meets its contract. The invariant: the loop stands in the run (`Stands`), what the steps rely on is kept, and k is 1 if nothing was held at the start, and else
-- 0. Each turn is one step, by its law in proofs/Turn.antt.
use Rattle.whole.proofs.Laws.{◌≡◌, ◌+◌}
use Rattle.digits.specs.Types.{SystemView}
use Rattle.digits.specs.Orders.{viewed}
use Rattle.states.proofs.Laws.{held_count}
use Rattle.steps.proofs.Laws.{Setting, setting, Ready}
use Rattle.unary.proofs.Turn.{lent_to, Stands, steps_left}
use Rattle.unary.proofs.run_judged.Given as goal

abbrev pub both : SystemView → SystemView → Setting
both a b = setting (viewed a) (viewed b)

abbrev pub invariant-loop-stop : goal.invariant-loop-stop
invariant-loop-stop l =
    (Ready (both l.inputs l.outputs) l.st) × (l.k + held_count l.initial.st.held ≡ 1) × (Stands (both l.inputs l.outputs) l.initial.st (lent_to l.input l.initial.output l.initial.divisors) l.output l.divisors l.st l.i l.o)

abbrev pub decreases-loop-stop : goal.decreases-loop-stop
decreases-loop-stop l = steps_left (both l.inputs l.outputs) (lent_to l.input l.initial.output l.initial.divisors) l.st l.i l.o

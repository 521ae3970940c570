-- `binary::run_judged` meets its contract. The invariant: the loop stands in the run (`Stands`), and what the steps rely on is kept. Each turn is one step, by its law in
-- proofs/TwoTurn.antt.
use Rattle.steps.proofs.Laws.{setting}
use Rattle.two_steps.proofs.Laws.{Ready}
use Rattle.binary.proofs.TwoTurn.{lent_to, Stands, steps_left}
use Rattle.digits.specs.Orders.{viewed}
use Rattle.binary.proofs.run_judged.Given as goal

abbrev pub invariant-loop-stop : goal.invariant-loop-stop
invariant-loop-stop l =
    let y = setting (viewed l.inputs) (viewed l.outputs) in
    (Ready y l.st) × (Stands y l.initial.st (lent_to l.xs l.ys l.initial.output) l.output l.st l.i l.j l.o)

abbrev pub decreases-loop-stop : goal.decreases-loop-stop
decreases-loop-stop l = steps_left (setting (viewed l.inputs) (viewed l.outputs)) (lent_to l.xs l.ys l.initial.output) l.st l.i l.j l.o

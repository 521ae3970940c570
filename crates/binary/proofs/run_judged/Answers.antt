-- `binary::run_judged` meets its contract. The invariant: the loop stands in the run (`Stands`), and what the steps rely on is kept. Each turn is one step, by its law in
-- proofs/TwoTurn.antt.
use Rattle.whole.proofs.Laws.{◌≡◌, ap, ◌∙◌, ℕ}
use Rattle.steps.proofs.Laws.{setting}
use Rattle.two_states.proofs.Laws.{Turn}
use Rattle.two_steps.proofs.Laws.{Kind, Load}
use Rattle.binary.proofs.TwoTurn.{stands_first, turn, ready_kept}
use Rattle.binary.proofs.run_judged.Goals as goal
use Rattle.digits.specs.Orders.{viewed}

pub loop-stop-init : goal.loop-stop-init
loop-stop-init c =
    let a = c.args in
    (c.requires, stands_first (setting (viewed a.inputs) (viewed a.outputs)) a.s a.xs.now a.ys.now a.output.now)

-- where it stops
pub returns-in-Halt : goal.returns-in-Halt
returns-in-Halt c = (turn c.loop-stop.invariant.1 c.step-m.ensures).halt _ c.in-Halt.is

-- a step that loads, of x and of y
loaded : {k : Kind} {w v : Turn} {a : ℕ} → k ≡ Load w a → w ≡ v → k ≡ Load v a
loaded {a = a} e f = e ∙ ap (λ (w : Turn). Load w a) f

pub loop-stop-smaller-in-Load-OfX-default : goal.loop-stop-smaller-in-Load-OfX-default
loop-stop-smaller-in-Load-OfX-default c =
    ((turn c.loop-stop.invariant.1 c.step-m.ensures).load_x_lem _ (loaded c.in-Load-OfX-default.is (rw c.in-Load-OfX-default.is at c.in-Load-OfX-default.field-0-is))).1.falls

pub loop-stop-preserved-in-Load-OfX-default : goal.loop-stop-preserved-in-Load-OfX-default
loop-stop-preserved-in-Load-OfX-default c = (
  ready_kept c.step-m.result _ c.loop-stop.invariant.0 c.step-m.ensures,
  ((turn c.loop-stop.invariant.1 c.step-m.ensures).load_x_lem _ (loaded c.in-Load-OfX-default.is (rw c.in-Load-OfX-default.is at c.in-Load-OfX-default.field-0-is))).1.stands,
)

pub loop-stop-smaller-in-Load-OfY-default : goal.loop-stop-smaller-in-Load-OfY-default
loop-stop-smaller-in-Load-OfY-default c =
    ((turn c.loop-stop.invariant.1 c.step-m.ensures).load_y_lem _ (loaded c.in-Load-OfY-default.is (rw c.in-Load-OfY-default.is at c.in-Load-OfY-default.field-0-is))).1.falls

pub loop-stop-preserved-in-Load-OfY-default : goal.loop-stop-preserved-in-Load-OfY-default
loop-stop-preserved-in-Load-OfY-default c = (
  ready_kept c.step-m.result _ c.loop-stop.invariant.0 c.step-m.ensures,
  ((turn c.loop-stop.invariant.1 c.step-m.ensures).load_y_lem _ (loaded c.in-Load-OfY-default.is (rw c.in-Load-OfY-default.is at c.in-Load-OfY-default.field-0-is))).1.stands,
)

-- a step that gives a digit out
pub bounds-output-o : goal.bounds-output-o
bounds-output-o c = ((turn c.loop-stop.invariant.1 c.step-m.ensures).give _ c.in-Give.is).0

pub loop-stop-smaller-in-Give : goal.loop-stop-smaller-in-Give
loop-stop-smaller-in-Give c = ((turn c.loop-stop.invariant.1 c.step-m.ensures).give _ c.in-Give.is).1.falls

pub loop-stop-preserved-in-Give : goal.loop-stop-preserved-in-Give
loop-stop-preserved-in-Give c = (ready_kept c.step-m.result _ c.loop-stop.invariant.0 c.step-m.ensures, ((turn c.loop-stop.invariant.1 c.step-m.ensures).give _ c.in-Give.is).1.stands)

-- a step that absorbs
pub loop-stop-smaller : goal.loop-stop-smaller
loop-stop-smaller c = ((turn c.loop-stop.invariant.1 c.step-m.ensures).absorb c.in-Absorb.is).falls

pub loop-stop-preserved : goal.loop-stop-preserved
loop-stop-preserved c = (ready_kept c.step-m.result _ c.loop-stop.invariant.0 c.step-m.ensures, ((turn c.loop-stop.invariant.1 c.step-m.ensures).absorb c.in-Absorb.is).stands)

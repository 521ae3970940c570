-- `unary::run_judged` meets its contract. The invariant: the loop stands in the run (`Stands`), what the steps rely on is kept, and k is 1 if nothing was held at the start, and else
-- 0. Each turn is one step, by its law in proofs/Turn.antt.
use Rattle.whole.proofs.Laws.{◌≡◌, ap, ◌∙◌, ◌+◌, arith}
use Rattle.states.proofs.Laws.{held_count}
use Rattle.unary.specs.Types.{Answer}
use Rattle.unary.specs.Run.{ran}
use Rattle.unary.proofs.Turn.{lent_to, stands_first, turn, ready_kept}
use Rattle.unary.proofs.run_judged.Invariants.{both}
use Rattle.unary.proofs.run_judged.Goals.{in-None, in-Some, After-step-m, At-loop-stop}
use Rattle.unary.proofs.run_judged.Goals as goal

pub loop-stop-init : goal.loop-stop-init
loop-stop-init c =
    let a = c.args in
    let first : c.match-held.k + held_count a.s.held ≡ 1 = elim c.match-held.branch [ in-None w ↦ omega (arith, ap held_count w.in-None.is) | in-Some w ↦ omega (arith, ap held_count w.in-Some.is) ] in (
      c.requires.0,
      first,
      stands_first (both a.inputs a.outputs) a.s
          (lent_to a.input.now a.output.now a.divisors.now),
    )

-- where it stops
pub ended-requires : goal.ended-requires
ended-requires c = (((turn c.loop-stop.invariant.1 c.loop-stop.invariant.2 c.step-m.ensures).halt _ c.in-Halt.is).0, omega (arith, c.well_formed, c.loop-stop.invariant.2.here.x, c.loop-stop.invariant.2.here.room))

pub returns-in-Halt : goal.returns-in-Halt
returns-in-Halt c =
    let l = c.loop-stop in
    ap (λ (a : Answer). ran a l.output l.divisors) c.ended.ensures ∙ ((turn c.loop-stop.invariant.1 c.loop-stop.invariant.2 c.step-m.ensures).halt _ c.in-Halt.is).1

-- a step that loads
pub overflow_add-i-in-Load : goal.overflow_add-i-in-Load
overflow_add-i-in-Load c = omega (arith, ((turn c.loop-stop.invariant.1 c.loop-stop.invariant.2 c.step-m.ensures).load _ c.in-Load.is).0, c.well_formed)

pub loop-stop-smaller-in-Load : goal.loop-stop-smaller-in-Load
loop-stop-smaller-in-Load c = ((turn c.loop-stop.invariant.1 c.loop-stop.invariant.2 c.step-m.ensures).load _ c.in-Load.is).1.falls

pub loop-stop-preserved-in-Load : goal.loop-stop-preserved-in-Load
loop-stop-preserved-in-Load c = (ready_kept c.step-m.result _ c.loop-stop.invariant.0 c.step-m.ensures, c.loop-stop.invariant.1, ((turn c.loop-stop.invariant.1 c.loop-stop.invariant.2 c.step-m.ensures).load _ c.in-Load.is).1.stands)

-- a step that gives a digit out
pub overflow_add-divisors-in-Give : goal.overflow_add-divisors-in-Give
overflow_add-divisors-in-Give c = omega (arith, c.well_formed, c.loop-stop.invariant.2.here.x, c.loop-stop.invariant.2.here.room)

pub overflow_sub-divisors : goal.overflow_sub-divisors
overflow_sub-divisors c = ((turn c.loop-stop.invariant.1 c.loop-stop.invariant.2 c.step-m.ensures).give _ _ c.in-Give.is).1

pub bounds-divisors-i : goal.bounds-divisors-i
bounds-divisors-i c = ((turn c.loop-stop.invariant.1 c.loop-stop.invariant.2 c.step-m.ensures).give _ _ c.in-Give.is).2

pub offset_bounds-divisors-i : goal.offset_bounds-divisors-i
offset_bounds-divisors-i c = omega (arith, bounds-divisors-i c, c.well_formed, c.loop-stop.invariant.2.here.list_length)

pub bounds-output-o : goal.bounds-output-o
bounds-output-o c = ((turn c.loop-stop.invariant.1 c.loop-stop.invariant.2 c.step-m.ensures).give _ _ c.in-Give.is).0

pub overflow_add-o : goal.overflow_add-o
overflow_add-o c = omega (arith, c.well_formed, c.loop-stop.invariant.2.here.x, c.loop-stop.invariant.2.here.room)

pub loop-stop-smaller-in-Give : goal.loop-stop-smaller-in-Give
loop-stop-smaller-in-Give c = ((turn c.loop-stop.invariant.1 c.loop-stop.invariant.2 c.step-m.ensures).give _ _ c.in-Give.is).3.falls

pub loop-stop-preserved-in-Give : goal.loop-stop-preserved-in-Give
loop-stop-preserved-in-Give c = (ready_kept c.step-m.result _ c.loop-stop.invariant.0 c.step-m.ensures, c.loop-stop.invariant.1, ((turn c.loop-stop.invariant.1 c.loop-stop.invariant.2 c.step-m.ensures).give _ _ c.in-Give.is).3.stands)

-- a step that absorbs
pub overflow_add-divisors-in-Absorb : goal.overflow_add-divisors-in-Absorb
overflow_add-divisors-in-Absorb c = omega (arith, c.well_formed, c.loop-stop.invariant.2.here.x, c.loop-stop.invariant.2.here.room)

pub overflow_sub-divisors-in-Absorb : goal.overflow_sub-divisors-in-Absorb
overflow_sub-divisors-in-Absorb c = ((turn c.loop-stop.invariant.1 c.loop-stop.invariant.2 c.step-m.ensures).absorb _ c.in-Absorb.is).0

pub bounds-divisors-i-in-Absorb : goal.bounds-divisors-i-in-Absorb
bounds-divisors-i-in-Absorb c = ((turn c.loop-stop.invariant.1 c.loop-stop.invariant.2 c.step-m.ensures).absorb _ c.in-Absorb.is).1

pub offset_bounds-divisors-i-in-Absorb : goal.offset_bounds-divisors-i-in-Absorb
offset_bounds-divisors-i-in-Absorb c = omega (arith, bounds-divisors-i-in-Absorb c, c.well_formed, c.loop-stop.invariant.2.here.list_length)

pub loop-stop-smaller : goal.loop-stop-smaller
loop-stop-smaller c = ((turn c.loop-stop.invariant.1 c.loop-stop.invariant.2 c.step-m.ensures).absorb _ c.in-Absorb.is).2.falls

pub loop-stop-preserved : goal.loop-stop-preserved
loop-stop-preserved c = (ready_kept c.step-m.result _ c.loop-stop.invariant.0 c.step-m.ensures, c.loop-stop.invariant.1, ((turn c.loop-stop.invariant.1 c.loop-stop.invariant.2 c.step-m.ensures).absorb _ c.in-Absorb.is).2.stands)

pub overflow_add-i : goal.overflow_add-i
overflow_add-i c = omega (arith, c.well_formed, c.loop-stop.invariant.2.here.x, c.loop-stop.invariant.2.here.room)

pub overflow_add-divisors : goal.overflow_add-divisors
overflow_add-divisors c = let h = c.loop-stop.invariant in omega (arith, c.well_formed, h.1, h.2.here.list_length)

pub step-m-requires : goal.step-m-requires
step-m-requires c = (c.loop-stop.invariant.0, c.requires.1)

-- `one_step::step` meets its contract, by the two cases of what is held.
use Rattle.whole.proofs.Laws.{◌≡◌, sym, subst, ℕ, ◌<◌, arith}
use Rattle.runs.proofs.Laws.{Supply}
use Rattle.states.proofs.Laws.{Held, Some, State, HeldDigit}
use Rattle.steps.proofs.Laws.{Move, Setting, plan, plan_by, Follows, WorksWith, Ready}
use Rattle.one_step.proofs.Fit.{of_r}
use Rattle.one_step.proofs.step.Goals as goal

-- the held digit is one of the input system, and can be worked with
held_below : {y : Setting} {s : State} {h : ℕ} → Ready y s → s.held ≡ Some h → h < y.input.count
held_below {y} r e = subst (HeldDigit y.input.count) e r.state.held_digit

works : {y : Setting} {s : State} {h : ℕ} → Ready y s → s.held ≡ Some h → WorksWith y.input s h
works {h = h} r e =
    let below = held_below r e in
    record {
      there = omega (arith, r.input.few, below);
      digit = r.input.digits h below;
      cancelled = r.state.cancelled;
      above = r.state.above;
      in_range = r.state.in_range;
    }

pub emit-requires : goal.emit-requires
emit-requires c =
    let p = c.requires in
    let held = c.in-Some.is in
    let below = held_below p.0 held in (
      works p.0 held,
      p.0.output,
      record {
        digit = of_r p.1.input_r _ below;
        interval = λ e. (p.1.input_r e).intervals p.0.input.few _ below;
        output_r = p.1.output_r;
        output_b = p.1.output_b;
      },
    )

-- the plan, by what is held
made : (y : Setting) (s : State) (r : Supply) (m : Move) {h : Held} → s.held ≡ h → Follows (plan_by y s h) s r m → Follows (plan y s) s r m
made y s r m e f = subst (λ h. Follows (plan_by y s h) s r m) (sym e) f

pub returns-in-None : goal.returns-in-None
returns-in-None c = made _ _ _ _ c.in-None.is (c.load.ensures _ _)

pub returns-in-Some : goal.returns-in-Some
returns-in-Some c = made _ _ _ _ c.in-Some.is (c.emit.ensures _)

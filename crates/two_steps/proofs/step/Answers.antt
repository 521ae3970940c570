-- `two_steps::step` meets its contract, by the cases of what is held.
use Rattle.whole.proofs.Laws.{sym, subst, subst₂, ◌-◌, drop}
use Rattle.runs.proofs.Laws.{Supply}
use Rattle.states.proofs.Laws.{Held}
use Rattle.steps.proofs.Laws.{Setting, setting}
use Rattle.two_states.proofs.Laws.{TwoState}
use Rattle.two_steps.specs.Types.{Move}
use Rattle.two_steps.specs.TwoStep.{two_words, plan_by}
use Rattle.two_steps.specs.Made.{Follows}
use Rattle.two_steps.proofs.Kept.{held_below}
use Rattle.two_steps.proofs.Works.{works}
use Rattle.two_steps.proofs.step.Goals as goal
use Rattle.digits.specs.Orders.{viewed}

-- what is to be shown of the plan, by what is held
abbrev By : Setting → TwoState → Supply → Move → Held → Held → Type 0
By y s w m h k = Follows (plan_by y s h k) s w m

-- ---- a digit is missing

pub returns-in-None-default : goal.returns-in-None-default
returns-in-None-default c =
    let a = c.args in
    let y = setting (viewed a.inputs) (viewed a.outputs) in
    let w = two_words (drop a.i a.xs.now) (drop a.j a.ys.now) (a.room - a.o) in
    subst (λ (h : Held). By y a.s w c.load.result h a.s.y) (sym c.in-None-default.is-0) (c.load.ensures _ _ _ _ c.next_byte.ensures)

pub returns-in-Some-None : goal.returns-in-Some-None
returns-in-Some-None c =
    let a = c.args in
    let y = setting (viewed a.inputs) (viewed a.outputs) in
    let w = two_words (drop a.i a.xs.now) (drop a.j a.ys.now) (a.room - a.o) in
    subst₂ (By y a.s w c.load-in-Some-None.result) (sym c.in-Some-None.is-0) (sym c.in-Some-None.is-1) (c.load-in-Some-None.ensures _ _ _ _ c.next_byte-in-Some-None.ensures)

-- ---- both are held

pub emit-requires : goal.emit-requires
emit-requires c =
    let r = c.requires in
    (works _ r.input r.state (held_below r.state.held_x c.in-Some-Some.is-0), works _ r.input r.state (held_below r.state.held_y c.in-Some-Some.is-1), r.output)

pub returns-in-Some-Some : goal.returns-in-Some-Some
returns-in-Some-Some c =
    let a = c.args in
    let y = setting (viewed a.inputs) (viewed a.outputs) in
    let w = two_words (drop a.i a.xs.now) (drop a.j a.ys.now) (a.room - a.o) in
    subst₂ (By y a.s w c.emit.result) (sym c.in-Some-Some.is-0) (sym c.in-Some-Some.is-1) (c.emit.ensures _ _)

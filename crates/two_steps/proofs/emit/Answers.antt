-- `two_steps::emit` meets its contract: what was found is the plan's choice.
use Rattle.whole.proofs.Laws.{sym, ap, subst, ◌∙◌, List, Option, ℕ, ◌-◌}
use Rattle.fitting.proofs.Laws.{fits}
use Rattle.steps.proofs.Laws.{Setting, setting}
use Rattle.two_states.proofs.Laws.{TwoState}
use Rattle.two_steps.specs.Types.{Move, Product}
use Rattle.two_steps.specs.TwoStep.{two_words, both_held}
use Rattle.two_steps.specs.Made.{Follows, Cancellable, finished_by}
use Rattle.two_steps.proofs.Plans.{stops_full, finishes}
use Rattle.two_steps.proofs.Works.{works_where, cancellable}
use Rattle.two_steps.proofs.emit.Goals as goal
use Rattle.digits.specs.Orders.{viewed}

-- what is to be shown, by the choice
abbrev By : Setting → TwoState → (a b room : ℕ) → Move → Option ℕ → Type 0
By y s a b room m o = (xs ys : List ℕ) → Follows (both_held y s a b o) s (two_words xs ys room) m

pub returns-then-no_room : goal.returns-then-no_room
returns-then-no_room c =
    let a = c.args in
    let y = setting (viewed a.inputs) (viewed a.outputs) in
    subst (By y a.s a.a a.b (a.room - a.o) _) c.chosen-fit.ensures
    (λ xs ys. stops_full y a.s a.a a.b xs ys a.o a.room (fits c.chosen-fit.result) (sym c.no_room.ensures ∙ c.if-no_room.true))

-- what was found can be worked with
pub step_product-requires : goal.step_product-requires
step_product-requires c =
    let a = c.args in
    let p = c.requires in
    (p.0, p.1, works_where (setting (viewed a.inputs) (viewed a.outputs)) a.b p.0 p.2 (fits c.chosen-fit.result) (sym c.chosen-fit.ensures))

pub finished-requires : goal.finished-requires
finished-requires c =
    let a = c.args in
    let p = c.requires in
    let y = setting (viewed a.inputs) (viewed a.outputs) in
    let fit = fits c.chosen-fit.result in
    subst Cancellable (sym c.step_product.ensures) (cancellable y p.0 p.1 fit (works_where y a.b p.0 p.2 fit (sym c.chosen-fit.ensures)))

pub returns : goal.returns
returns c =
    let a = c.args in
    let y = setting (viewed a.inputs) (viewed a.outputs) in
    let fit = fits c.chosen-fit.result in
    subst (By y a.s a.a a.b (a.room - a.o) c.finished.result) c.chosen-fit.ensures (λ xs ys.
    rw (c.finished.ensures ∙ ap (λ (p : Product). finished_by a.s p fit) c.step_product.ensures)
    (finishes y a.s a.a a.b xs ys a.o a.room fit (sym c.no_room.ensures ∙ c.if-no_room.false)))

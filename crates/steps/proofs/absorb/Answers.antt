-- `steps::absorb` meets its contract: line 5 of a step.
use Rattle.whole.proofs.Laws.{ap, ap₂, ◌∙◌, ℕ, ◌-◌, arith}
use Rattle.steps.specs.Types.{Absorb}
use Rattle.states.proofs.Laws.{absorbed}
use Rattle.steps.proofs.Plans.{ranged_move, absorbs, absorb_unlisted}
use Rattle.steps.proofs.absorb.Goals as goal

pub returns-then-list-p : goal.returns-then-list-p
returns-then-list-p c = λ bytes room. absorb_unlisted c.args.s _ _ bytes room _ (omega arith)

pub returns : goal.returns
returns c =
    let a = c.args in
    let is = c.absorbed_product-new.ensures in
    λ bytes room. rw (c.in_range.ensures ∙ ap₂ (λ (n : ℕ). ranged_move a.s (Absorb n)) is.0 (c.opened.ensures ∙ ap (absorbed a.s) is.1))
    (absorbs a.s _ _ bytes room (a.list - a.p) (λ e. omega arith))

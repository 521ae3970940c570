-- `steps::give` meets its contract: line 4 of a step, for the digit that fits.
use Rattle.whole.proofs.Laws.{ap, ap₂, ◌∙◌, ℕ, ◌-◌, arith}
use Rattle.steps.specs.Types.{Give}
use Rattle.states.proofs.Laws.{given}
use Rattle.steps.proofs.Plans.{ranged_move, gives, no_room, give_unlisted}
use Rattle.steps.proofs.give.Goals as goal

pub returns-then-room-o : goal.returns-then-room-o
returns-then-room-o c = λ bytes. no_room c.args.s _ _ bytes _ _ _ (omega arith)

pub returns-then-list-p : goal.returns-then-list-p
returns-then-list-p c = λ bytes. give_unlisted c.args.s _ _ bytes _ _ _ (λ e. omega arith) (omega arith)

pub returns : goal.returns
returns c =
    let a = c.args in
    let is = c.given_product-new.ensures in
    λ bytes. rw (c.in_range.ensures ∙ ap₂ (λ (n : ℕ). ranged_move a.s (Give a.b n)) is.0 (c.given.ensures ∙ ap (given a.s) is.1))
    (gives a.s _ _ bytes a.b (a.room - a.o) (a.list - a.p) (λ e. omega arith) (λ e. omega arith))

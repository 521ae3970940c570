-- `steps::load` meets its contract: lines 1 to 3 of a step, by whether there is a byte and whether it is a digit.
use Rattle.whole.proofs.Laws.{lt-ltb, le-ltb}
use Rattle.steps.proofs.Plans.{load_ends, load_takes, load_refuses}
use Rattle.steps.proofs.load.Goals as goal

pub returns-then-b-count : goal.returns-then-b-count
returns-then-b-count c =
    let a = c.args in
    λ room list. rw c.loaded.ensures (load_takes a.count a.s a.input.now a.i room list c.if-i-input.true (lt-ltb _ _ c.if-b-count.true))

pub returns-then-i-input : goal.returns-then-i-input
returns-then-i-input c =
    let a = c.args in
    λ room list. load_refuses a.count a.s a.input.now a.i room list c.if-i-input.true (le-ltb _ _ c.if-b-count.false)

pub returns : goal.returns
returns c = let a = c.args in λ room list. load_ends a.count a.s a.input.now a.i room list c.if-i-input.false

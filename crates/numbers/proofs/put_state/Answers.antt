-- `numbers::put_state` meets its contract: the matrix, and the fifth number behind it.
use Rattle.whole.proofs.Laws.{ap₂, ◌∙◌, pos, set, ok_back}
use Rattle.numbers.specs.Numbers.{state_numbers}
use Rattle.numbers.proofs.Lists.{known}
use Rattle.numbers.proofs.put_state.Goals as goal

pub returns : goal.returns
unfolding state_numbers
returns c =
    ap₂ (λ l z. set l 4 z) c.put_matrix.ensures (ok_back c.held_number.type_inv ∙ c.held_number.ensures)
    ∙ rw (known (pos 0) 5 c.args.five.now c.requires)

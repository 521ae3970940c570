-- `two_call::put_state` meets its contract: the eight numbers, and the three behind them.
use Rattle.whole.proofs.Laws.{◌∙◌, pos, set, ok_back}
use Rattle.numbers.proofs.Laws.{known}
use Rattle.two_call.specs.TwoNumbers.{two_numbers}
use Rattle.two_call.proofs.put_state.Goals as goal

pub returns : goal.returns
unfolding two_numbers
returns c =
    let x = ok_back c.held_number.type_inv ∙ c.held_number.ensures in
    let y = ok_back c.held_number-2.type_inv ∙ c.held_number-2.ensures in
    let turn = ok_back c.turn_number.type_inv ∙ c.turn_number.ensures in
    (λ i. set (set (set (c.put_form.ensures i) 8 (x i)) 9 (y i)) 10 (turn i)) ∙ rw (known (pos 0) 11 c.args.eleven.now c.requires)

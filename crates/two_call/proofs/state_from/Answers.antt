-- `two_call::state_from` meets its contract, part by part: where the last number is no turn, a digit is held, of x, that no system has.
use Rattle.whole.proofs.Laws.{◌≡◌, sym, ◌∙◌, at, drop}
use Rattle.plane.proofs.Laws.{entries}
use Rattle.bilinear.proofs.Laws.{form}
use Rattle.numbers.specs.Numbers.{held_from}
use Rattle.two_call.specs.TwoNumbers.{turn_from, turn?, held_by, two_from}
use Rattle.std.proofs.Common.{rules}
use Rattle.two_call.proofs.state_from.Goals.{then-turn_known, else-turn_known}
use Rattle.two_call.proofs.state_from.Goals as goal

pub returns : goal.returns
unfolding two_from
returns c =
    let l = c.args.eleven.now in
    let under : c.matrix_from-2.result ≡ entries (drop 4 l) = search rules in
    let known : c.turn_known.result ≡ turn? (at l 10) = search rules in
    let x : c.if-turn_known.result ≡ held_by (at l 10) (held_from (at l 8)) = elim c.if-turn_known.branch [
      | then-turn_known w ↦ let read : w.held_from.result ≡ held_from (at l 8) = search rules in w.result-is ∙ rw (sym known ∙ w.if-turn_known.true) read
      | else-turn_known w ↦ w.result-is ∙ rw (sym known ∙ w.if-turn_known.false)
    ] in
    let y : c.held_from-2.result ≡ held_from (at l 9) = search rules in
    let turn : c.turn_from.result ≡ turn_from (at l 10) = search rules in
    (λ i. record { form = form (c.matrix_from.ensures i) (under i); x = x i; y = y i; turn = turn i })

-- `state_line::put_held` meets its contract: `-`, or the held digit.
use Rattle.whole.proofs.Laws.{sym, ap, [], ◌∷◌, ◌++◌, arith}
use Rattle.states.proofs.Laws.{Held}
use Rattle.text.proofs.Laws.{wrote_as, at_most}
use Rattle.state_line.specs.StateLine.{held_text}
use Rattle.state_line.proofs.put_held.Goals as goal

pub returns-in-None : goal.returns-in-None
unfolding held_text
returns-in-None c =
    let p = c.before.before in
    wrote_as (sym (ap (λ (h : Held). held_text h ++ (10 ∷ [])) p.in-None.is)) (at_most (omega arith) p.put_text.ensures)

pub returns-in-Some : goal.returns-in-Some
unfolding held_text
returns-in-Some c =
    let p = c.before.before in
    wrote_as (sym (ap (λ (h : Held). held_text h ++ (10 ∷ [])) p.in-Some.is)) p.put_field.ensures

-- `state_line::put_state` meets its contract: the four entries and the held digit.
use Rattle.whole.proofs.Laws.{◌≡◌, ap, arith, at, back_of_lem}
use Rattle.text.proofs.Laws.{left_less, left_none}
use Rattle.std.proofs.Common.{rules}
use Rattle.state_line.specs.StateLine.{state_line_of}
use Rattle.state_line.proofs.Entries.{behind, entry_more}
use Rattle.state_line.proofs.put_state.Goals as goal

pub loop-entry-preserved : goal.loop-entry-preserved
loop-entry-preserved c =
    let w = c.put_signed-p.ensures in
    let i = c.loop-entry.entry-index in
    let z = back_of_lem (at c.args.s.matrix i) (search rules) in
    (search rules, omega (arith, w.place, w.few), left_less _ c.loop-entry.invariant.2 w _ (entry_more c.args.s i z (omega arith)))

pub returns : goal.returns
unfolding state_line_of
returns c =
    let w = c.put_held.ensures in
    let e : c.loop-entry.entry-index ≡ 4 = omega arith in
    left_none _ c.loop-entry.invariant.2 w (ap (behind c.args.s) e) (omega (arith, w.place, w.few))

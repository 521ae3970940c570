-- `lines::put_answer` meets its contract: three lines. The digits that are printed are those that the run has written.
use Rattle.whole.proofs.Laws.{sym, ap, ℕ, arith, length-take-le}
use Rattle.text.proofs.Laws.{and_then_lem, wrote_as, at_most}
use Rattle.lines.specs.Lines.{counts_line, digits_line, answer_text}
use Rattle.lines.proofs.put_answer.Goals as goal

pub returns : goal.returns
unfolding answer_text digits_line
returns c =
    let a = c.args.answer in
    let size = length-take-le a.written.0 c.args.output.now c.requires.2 in
    at_most (omega (arith, size, c.requires))
    (and_then_lem (wrote_as (ap (λ (k : ℕ). counts_line k a.taken.0 a.written.0) c.end_number-end.ensures) c.put_counts-a.ensures)
    (and_then_lem c.put_state-b.ensures c.put_line.ensures))

pub slice_bounds-put_line-end : goal.slice_bounds-put_line-end
slice_bounds-put_line-end c = sym (length-take-le c.args.answer.written.0 c.args.output.now c.requires.2)

pub put_line-requires : goal.put_line-requires
put_line-requires c = omega (arith, length-take-le c.args.answer.written.0 c.args.output.now c.requires.2)

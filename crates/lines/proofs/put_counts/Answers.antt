-- `lines::put_counts` meets its contract: three fields.
use Rattle.text.proofs.Laws.{and_then_lem}
use Rattle.lines.specs.Lines.{counts_line}
use Rattle.lines.proofs.put_counts.Goals as goal

pub returns : goal.returns
unfolding counts_line
returns c =
    let w = c.before.before in
    let t = w.before.before.before.before in
    let e = t.before.before.before.before in
    and_then_lem e.put_field-a.ensures (and_then_lem t.put_field-b.ensures w.put_field.ensures)

-- `lines::put_refusal` meets its contract: a word and two fields.
use Rattle.whole.proofs.Laws.{arith}
use Rattle.text.proofs.Laws.{and_then_lem, at_most}
use Rattle.lines.specs.Lines.{refused_text}
use Rattle.lines.proofs.put_refusal.Goals as goal

pub returns : goal.returns
unfolding refused_text
returns c =
    let s = c.before.before in
    let n = s.before.before.before.before in
    let r = n.before.before.before.before in
    at_most (omega arith) (and_then_lem r.put_text-a.ensures (and_then_lem n.put_field-b.ensures s.put_field.ensures))

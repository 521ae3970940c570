-- `written_sections::put_row` meets its contract. The invariant: the first j numbers of the row are written.
use Rattle.whole.proofs.Laws.{sym, ap, ◌∙◌, arith, at, element_16, ℤ}
use Rattle.std.proofs.Common.{rules}
use mir.Facts.{to_z-of_z}
use mir.Syntax.{w16}
use mir.Val.{SFits}
use Rattle.written_sections.specs.Filled.{number_put}
use Rattle.written_sections.proofs.Numbers.{one_more, all_begun}
use Rattle.written_sections.proofs.Rows.{row_length, row_at}
use Rattle.written_sections.proofs.put_row.Goals as goal

pub loop-j-preserved : goal.loop-j-preserved
loop-j-preserved c =
    let l = c.loop-j in
    let a = c.args in
    let fits : SFits w16 (at a.columns.now c.column_place.result) = element_16 _ (search rules) in
    let z = to_z-of_z fits ∙ ap (at a.columns.now) c.column_place.ensures ∙ sym (row_at a.columns.now a.a l.j (omega arith)) in
    one_more l.invariant (omega (arith, row_length a.columns.now a.a)) (c.put_number.ensures ∙ ap (λ (y : ℤ). number_put l.j y l.out) z)

pub returns : goal.returns
returns c = let a = c.args in all_begun c.loop-j.invariant (omega (arith, row_length a.columns.now a.a))

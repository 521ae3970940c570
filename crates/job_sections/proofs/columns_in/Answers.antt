-- `job_sections::columns_in` meets its contract. The invariant: the first p numbers of the columns are written.
use Rattle.whole.proofs.Laws.{sym, ap, ◌∙◌, arith, at, element_16, copy_one, copied}
use Rattle.digits.proofs.Laws.{columns_length, columns_at}
use mir.Facts.{to_z-of_z}
use Rattle.job_sections.specs.Sections.{numbers_in}
use Rattle.std.proofs.Common.{rules}
use Rattle.job_sections.proofs.columns_in.Goals as goal

pub loop-p-preserved : goal.loop-p-preserved
loop-p-preserved c =
    let l = c.loop-p in
    let rows = numbers_in c.args.bytes.now in
    let number = to_z-of_z (element_16 _ c.number_or_0.type_inv) ∙ c.number_or_0.ensures ∙ ap (at rows) c.row_place.ensures in
    copy_one l.invariant (search rules) (omega (arith, columns_length rows)) (number ∙ sym (columns_at rows l.p (omega arith)))

pub returns : goal.returns
returns c = copied c.loop-p.invariant (omega arith) (columns_length (numbers_in c.args.bytes.now))

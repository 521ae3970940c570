-- `job_sections::number_or_0` meets its contract: behind the last number stands 0.
use Rattle.whole.proofs.Laws.{sym, ◌∙◌, arith, element_16}
use mir.Facts.{to_z-of_z}
use Rattle.job_sections.proofs.Numbers.{number_is, behind_numbers}
use Rattle.job_sections.proofs.number_or_0.Goals as goal

pub returns-then-i-bytes : goal.returns-then-i-bytes
returns-then-i-bytes c = to_z-of_z (element_16 _ c.number_at.type_inv) ∙ c.number_at.ensures ∙ sym (number_is c.args.bytes.now c.args.i (omega (arith, c.if-i-bytes.true)))

pub returns : goal.returns
returns c = behind_numbers c.args.bytes.now c.args.i c.if-i-bytes.false

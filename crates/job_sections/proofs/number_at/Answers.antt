-- `job_sections::number_at` meets its contract: two's complement.
use Rattle.whole.proofs.Laws.{◌+◌, ap, ◌∙◌, arith, element_16}
use mir.Facts.{to_z-of_z}
use Rattle.job_sections.specs.Sections.{signed}
use Rattle.job_sections.proofs.Numbers.{signed_word}
use Rattle.job_sections.proofs.number_at.Goals as goal

pub returns : goal.returns
returns c =
    let k = c.type_inv.bytes in
    to_z-of_z (element_16 _ c.from_le_bytes.type_inv) ∙ c.from_le_bytes.ensures ∙ signed_word _ (omega (arith, k c.args.p, k (c.args.p + 1))) ∙ ap signed (omega arith)

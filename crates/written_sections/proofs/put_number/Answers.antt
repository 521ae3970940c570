-- `written_sections::put_number` meets its contract: the two bytes of a word that holds a number.
use Rattle.whole.proofs.Laws.{ap, ◌∙◌, arith, ℤ}
use Rattle.std.specs.Int.{to_le_bytes}
use mir.Facts.{to_z-of_z}
use mir.Syntax.{w16}
use mir.Val.{of_z}
use Rattle.written_sections.proofs.Numbers.{put_two, word_bytes}
use Rattle.written_sections.proofs.put_number.Goals as goal

pub returns : goal.returns
returns c =
    let a = c.args in
    put_two a.i a.z a.out.now (omega arith)
    (c.copy_from_slice.ensures.after ∙ c.to_le_bytes.ensures ∙ ap (λ (y : ℤ). to_le_bytes w16 (of_z w16 y)) (to_z-of_z c.ranges.z) ∙ word_bytes a.z c.ranges.z)

-- `written_sections::put_numbers` meets its contract. The invariant: the first i numbers are written.
use Rattle.whole.proofs.Laws.{ap, ◌∙◌, arith, at, element_16, ℤ}
use Rattle.std.proofs.Common.{rules}
use mir.Facts.{to_z-of_z}
use mir.Syntax.{w16}
use mir.Val.{SFits}
use Rattle.written_sections.specs.Filled.{number_put}
use Rattle.written_sections.proofs.Numbers.{one_more, all_begun}
use Rattle.written_sections.proofs.put_numbers.Goals as goal

pub loop-i-preserved : goal.loop-i-preserved
loop-i-preserved c =
    let l = c.loop-i in
    let z = at c.args.numbers.now l.i in
    let fits : SFits w16 z = element_16 _ (search rules) in
    one_more l.invariant c.loop-i-test.true (c.put_number.ensures ∙ ap (λ (y : ℤ). number_put l.i y l.out) (to_z-of_z fits))

pub returns : goal.returns
returns c = all_begun c.loop-i.invariant (omega (arith, c.loop-i-test.false))

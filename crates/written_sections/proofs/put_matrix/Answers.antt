-- `written_sections::put_matrix` meets its contract: the count, and behind it the four numbers.
use Rattle.whole.proofs.Laws.{◌≡◌, refl, sym, ap, ◌∙◌, ℕ, arith, length, at, narrow_back}
use Rattle.plane.proofs.Laws.{four, four_equal}
use mir.Syntax.{w16}
use mir.Val.{SFits}
use Rattle.job_sections.proofs.Laws.{numbers_bytes, numbers_bytes_length}
use Rattle.written_sections.proofs.Filling.{section_filled}
use Rattle.written_sections.proofs.Numbers.{signed_fits}
use Rattle.written_sections.proofs.put_matrix.Goals.{Start}
use Rattle.written_sections.proofs.put_matrix.Goals as goal

fits : (c : Start) (i : ℕ) → SFits w16 (at c.args.m i)
fits c i = signed_fits (at c.args.m i) (c.requires.1 i)

pub returns : goal.returns
returns c =
    let p = goal.at.returns c in
    let m = c.args.m in
    let size : length (numbers_bytes m) ≡ 8 = omega (arith, numbers_bytes_length m) in
    let f = fits p.Start in
    let numbers = four_equal (narrow_back (f 0)) (narrow_back (f 1)) (narrow_back (f 2)) (narrow_back (f 3)) ∙ sym (four m (omega arith)) in
    (section_filled 4 (numbers_bytes m) c.args.out.now c.put_count.ensures c.put_numbers.ensures (ap numbers_bytes numbers) size, refl)

-- `job_writing::write_lent` meets its contract: what is judged decides, then the room, and then the file is written.
use Rattle.whole.proofs.Laws.{◌≡◌, refl, sym, ap, ◌∙◌, List, ℕ, arith, length}
use Rattle.refusals.specs.Types.{Err, Result}
use Rattle.job_sections.proofs.Laws.{Contents, FileRefusal}
use Rattle.job_writing.specs.Types.{Written}
use Rattle.job_writing.specs.Writing.{contents, wrote, written_as}
use Rattle.job_writing.proofs.WrittenFile.{refused_leaves, short_leaves, file_leaves, passed_fits}
use Rattle.std.proofs.Common.{rules}
use Rattle.job_writing.proofs.write_lent.Goals.{Start}
use Rattle.job_writing.proofs.write_lent.Goals as goal
use Rattle.digits.specs.Orders.{seen}

-- the contents
abbrev these : (c : Start) → Contents
these c = let a = c.args in contents (seen a.input) (seen a.output) a.matrix a.word.now

pub returns-in_err-size : goal.returns-in_err-size
returns-in_err-size c =
    let t = these (goal.at.returns-in_err-size c).Start in
    let f = c.in_err-size.field-0.0 in
    let e : c.from_residual.result ≡ Err f = search rules in
    ap (λ (r : Result ℕ FileRefusal). wrote (written_as r) c.args.buffer.now) e ∙ refused_leaves t c.args.buffer.now c.in_err-size.ensures refl

-- where nothing is refused
pub returns-then-buffer-size : goal.returns-then-buffer-size
returns-then-buffer-size c =
    let t = these (goal.at.returns-then-buffer-size c).Start in
    ap (λ (r : Result ℕ FileRefusal). wrote (written_as r) c.args.buffer.now) c.in_section.ensures ∙ short_leaves t c.args.buffer.now (sym c.in_ok-size.ensures) (omega (arith, c.if-buffer-size.true))

pub put_sections-requires : goal.put_sections-requires
put_sections-requires c =
    let t = these (goal.at.put_sections-requires c).Start in
    let four : length c.args.matrix ≡ 4 = search rules in
    passed_fits t c.args.buffer.now (sym c.in_ok-size.ensures) four (omega (arith, c.if-buffer-size.false))

pub returns : goal.returns
returns c =
    let t = these (goal.at.returns c).Start in
    ap (λ (l : List ℕ). wrote (Written c.in_ok-size.size) l) c.put_sections.ensures ∙ file_leaves t c.args.buffer.now (sym c.in_ok-size.ensures) (omega (arith, c.if-buffer-size.false))

-- `job_writing::judge` meets its contract: the first refusal decides.
use Rattle.whole.proofs.Laws.{◌≡◌, sym, ap, ◌∙◌, arith}
use Rattle.refusals.specs.Types.{Err}
use Rattle.refusals.specs.Numbers.{number_of}
use Rattle.job_sections.proofs.Laws.{Contents, layout_size, passes_section, refuses_section}
use Rattle.job_writing.specs.Types.{Written, NotWritten}
use Rattle.job_writing.specs.Writing.{contents, written_as}
use Rattle.job_writing.proofs.WrittenFile.{passes}
use Rattle.job_writing.proofs.Judged.{input_refused, output_refused, matrix_refused, word_refused, not_refused}
use Rattle.std.proofs.Common.{rules}
use Rattle.job_writing.proofs.judge.Goals.{Start}
use Rattle.job_writing.proofs.judge.Goals as goal
use Rattle.digits.specs.Orders.{seen}

-- the contents
abbrev these : (c : Start) → Contents
these c = let a = c.args in contents (seen a.input) (seen a.output) a.matrix a.word.now

pub returns-in_err-in_section : goal.returns-in_err-in_section
returns-in_err-in_section c =
    let t = these (goal.at.returns-in_err-in_section c).Start in
    let f = c.in_err-in_section.field-0.0 in
    let e : c.from_residual.result ≡ Err f = search rules in
    let k = refuses_section (sym c.in_section.ensures ∙ c.in_err-in_section.was) in
    ap written_as e ∙ ap (NotWritten (number_of f.refusal)) (sym k.1) ∙ input_refused t c.admission_of.ensures k.0

pub returns-in_err-in_section-2 : goal.returns-in_err-in_section-2
returns-in_err-in_section-2 c =
    let t = these (goal.at.returns-in_err-in_section-2 c).Start in
    let f = c.in_err-in_section-2.field-0.0 in
    let e : c.from_residual-in_err-in_section-2.result ≡ Err f = search rules in
    let i = passes_section 0 (sym c.in_section.ensures ∙ c.in_ok-in_section.was) in
    let k = refuses_section (sym c.in_section-2.ensures ∙ c.in_err-in_section-2.was) in
    ap written_as e ∙ ap (NotWritten (number_of f.refusal)) (sym k.1) ∙ output_refused t c.admission_of.ensures i c.admission_of-2.ensures k.0

pub returns-in_err-in_section-3 : goal.returns-in_err-in_section-3
returns-in_err-in_section-3 c =
    let t = these (goal.at.returns-in_err-in_section-3 c).Start in
    let f = c.in_err-in_section-3.field-0.0 in
    let e : c.from_residual-in_err-in_section-3.result ≡ Err f = search rules in
    let i = passes_section 0 (sym c.in_section.ensures ∙ c.in_ok-in_section.was) in
    let o = passes_section 1 (sym c.in_section-2.ensures ∙ c.in_ok-in_section-2.was) in
    let k = refuses_section (sym c.in_section-3.ensures ∙ c.in_err-in_section-3.was) in
    ap written_as e ∙ ap (NotWritten (number_of f.refusal)) (sym k.1) ∙ matrix_refused t c.admission_of.ensures i c.admission_of-2.ensures o c.opening_of.ensures k.0

-- where neither a system nor the matrix is refused
pub returns-then-word-gt4096 : goal.returns-then-word-gt4096
returns-then-word-gt4096 c =
    let t = these (goal.at.returns-then-word-gt4096 c).Start in
    let i = passes_section 0 (sym c.in_section.ensures ∙ c.in_ok-in_section.was) in
    let o = passes_section 1 (sym c.in_section-2.ensures ∙ c.in_ok-in_section-2.was) in
    let m = passes_section 2 (sym c.in_section-3.ensures ∙ c.in_ok-in_section-3.was) in
    ap written_as c.in_section-then-word-gt4096.ensures ∙
    word_refused t c.admission_of.ensures i c.admission_of-2.ensures o c.opening_of.ensures m (omega (arith, c.if-word-gt4096.true))

-- nor the word
pub file_size-requires : goal.file_size-requires
file_size-requires c =
    let t = these (goal.at.file_size-requires c).Start in
    let i = passes_section 0 (sym c.in_section.ensures ∙ c.in_ok-in_section.was) in
    let o = passes_section 1 (sym c.in_section-2.ensures ∙ c.in_ok-in_section-2.was) in
    let m = passes_section 2 (sym c.in_section-3.ensures ∙ c.in_ok-in_section-3.was) in
    let passed = not_refused t c.admission_of.ensures i c.admission_of-2.ensures o c.opening_of.ensures m (omega (arith, c.if-word-gt4096.false)) in
    let k = (passes t (sym passed)).0 in
    (k.0.counted.few, k.1.0.counted.few, k.1.1.1.0.counted.few)

pub returns : goal.returns
returns c =
    let t = these (goal.at.returns c).Start in
    let i = passes_section 0 (sym c.in_section.ensures ∙ c.in_ok-in_section.was) in
    let o = passes_section 1 (sym c.in_section-2.ensures ∙ c.in_ok-in_section-2.was) in
    let m = passes_section 2 (sym c.in_section-3.ensures ∙ c.in_ok-in_section-3.was) in
    ap Written (c.file_size.ensures ∙ sym (layout_size t (search rules))) ∙
    not_refused t c.admission_of.ensures i c.admission_of-2.ensures o c.opening_of.ensures m (omega (arith, c.if-word-gt4096.false))

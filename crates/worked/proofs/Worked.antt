-- Every row of the table of worked examples holds. The checker runs the test of each row, once, over the whole table (`computed`); one law turns a table that passes
-- into what its rows say (`passed`).
use Rattle.whole.proofs.Laws.{◌≡◌, refl, sym, subst, Bool, true, ◌&&◌, List, [], ◌∷◌, gcd_by, gcd, gcd4, first, both_true, unless_refused, within?}
use Rattle.plane.proofs.Laws.{apply, determinant_of, pseudoinverse_of, multiply_of, image_of, cancel_of}
use Rattle.inclusion.proofs.Laws.{closed?, same?, included?}
use Rattle.digits.proofs.Laws.{transformation_by, interval_by, rows_in, rows_b, stored}
use Rattle.expanding.proofs.Laws.{form_of, expands?}
use Rattle.admission.proofs.Laws.{row_verdict, rows_verdict, admission_of}
use Rattle.runs.proofs.Laws.{follow, run_by, run, judged_run}
use Rattle.fitting.proofs.Laws.{fitting_of}
use Rattle.judging.proofs.Laws.{state?, refusal_by, refusal_of}
use Rattle.unary.proofs.Laws.{course_of, run_of}
use Rattle.opening.proofs.Laws.{open_of}
use Rattle.sections.specs.Section.{presence, number_of}
use Rattle.job_sections.specs.Sections.{signed, numbers_in}
use Rattle.jobs.specs.Reading.{reading_of, read_of}
use Rattle.text.specs.Number.{digits_by, decimal, signed_text}
use Rattle.state_line.specs.StateLine.{held_text, state_line_of}
use Rattle.lines.specs.Lines.{counts_line, digits_line, answer_text, refused_text}
use Rattle.printed.specs.Text.{printed}
use mathlib.Core.Logic.{⊎_elim}
use Rattle.worked.specs.Claims.{Claim, Says, Member}
use Rattle.worked.specs.Table.{table}
use Rattle.worked.proofs.Tests.{passes?, holds}

abbrev pub all_pass? : List Claim → Bool
all_pass? [] = true
all_pass? (c ∷ cs) = passes? c && all_pass? cs

pub passed : (cs : List Claim) → all_pass? cs ≡ true → (c : Claim) → Member c cs → Says c
passed [] e c k = absurd k
passed (d ∷ ds) e c k =
    let p = both_true (passes? d) (all_pass? ds) e in
    ⊎_elim (λ q. subst Says (sym q) (holds d p.0)) (λ m. passed ds p.1 c m) k

computed : all_pass? table ≡ true
unfolding gcd_by gcd gcd4 apply determinant_of pseudoinverse_of multiply_of image_of cancel_of closed? same? included? first within? row_verdict rows_verdict
    form_of expands? admission_of rows_in rows_b stored state? open_of unless_refused transformation_by interval_by fitting_of follow run_by run refusal_of refusal_by judged_run course_of run_of
    presence number_of signed numbers_in reading_of read_of digits_by decimal signed_text held_text state_line_of counts_line digits_line answer_text refused_text printed
computed = refl

-- Document 01's worked examples, P1 to P12 and its other runs, are true of the definitions.
pub worked_examples : (c : Claim) → Member c table → Says c
worked_examples = passed table computed

-- `admission::admission_of` meets its contract: "3: a system has 0 or more than 16 digits", and the rows after that.
use Rattle.whole.proofs.Laws.{◌∙◌, inl, inr, arith}
use Rattle.admission.proofs.AdmittedSays.{wrong_count, counted}
use Rattle.admission.proofs.admission_of.Goals as goal

pub returns-then-system-eq0 : goal.returns-then-system-eq0
returns-then-system-eq0 c = wrong_count _ (inl c.if-system-eq0.true)

pub returns-then-system-gt16 : goal.returns-then-system-gt16
returns-then-system-gt16 c = wrong_count _ (inr c.if-system-gt16.true)

pub returns : goal.returns
returns c = c.rows_verdict.ensures ∙ counted _ (omega arith) (omega arith)

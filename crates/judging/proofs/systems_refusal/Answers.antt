-- `judging::systems_refusal` meets its contract: the input system, then the output system.
use Rattle.whole.proofs.Laws.{sym, ap, ◌∙◌, passed, decided, arith}
use Rattle.refusals.proofs.Numbers.{numbered}
use Rattle.refusals.specs.Numbers.{outcome_number}
use Rattle.judging.specs.Refusal.{refusal_by}
use Rattle.judging.proofs.Judging.{itself, passed_on}
use Rattle.judging.proofs.systems_refusal.Goals as goal

pub returns-in_err-admission_of : goal.returns-in_err-admission_of
unfolding refusal_by
returns-in_err-admission_of c =
    let number = ap outcome_number c.in_err-admission_of.ensures in
    ap outcome_number (passed_on c.from_residual.result c.from_residual.ensures.1) ∙ number ∙
    sym (decided _ _ (λ z. omega (arith, numbered c.in_err-admission_of.field-0.0, number, z)))

pub returns : goal.returns
unfolding refusal_by
returns c = ap outcome_number c.admission_of-2.ensures ∙ sym (passed _ _ (sym (ap outcome_number c.in_ok-admission_of.ensures)) ∙ itself _)

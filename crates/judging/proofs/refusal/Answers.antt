-- `judging::refusal` meets its contract: the systems, and then the state.
use Rattle.whole.proofs.Laws.{refl, sym, ap, ◌∙◌, arith}
use Rattle.refusals.proofs.Numbers.{numbered}
use Rattle.refusals.specs.Numbers.{outcome_number}
use Rattle.judging.specs.Refusal.{refusal_of}
use Rattle.judging.proofs.Judging.{system_decides, state_decides, passed_on}
use Rattle.judging.proofs.refusal.Goals as goal

pub returns-in_err-systems_refusal : goal.returns-in_err-systems_refusal
unfolding refusal_of
returns-in_err-systems_refusal c =
    ap outcome_number (passed_on c.from_residual.result c.from_residual.ensures.1) ∙
    system_decides _ _ c.in_err-systems_refusal.ensures (λ z. omega (arith, numbered c.in_err-systems_refusal.field-0.0, z))

pub returns-then-state_kept : goal.returns-then-state_kept
unfolding refusal_of
returns-then-state_kept c = state_decides _ _ c.in_ok-systems_refusal.ensures refl (sym c.state_kept.ensures ∙ c.if-state_kept.true)

pub returns-else-state_kept : goal.returns-else-state_kept
unfolding refusal_of
returns-else-state_kept c = state_decides _ _ c.in_ok-systems_refusal.ensures refl (sym c.state_kept.ensures ∙ c.if-state_kept.false)

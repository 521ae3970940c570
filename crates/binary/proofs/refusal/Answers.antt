-- `binary::refusal` meets its contract: the systems, and then the state.
use Rattle.whole.proofs.Laws.{refl, sym, ap, ◌∙◌, arith}
use Rattle.std.proofs.lemmas.Result.{err_from_is_err_and}
use Rattle.refusals.specs.Types.{Err}
use Rattle.refusals.proofs.Numbers.{numbered}
use Rattle.refusals.specs.Numbers.{outcome_number}
use Rattle.judging.proofs.Laws.{system_decides, state_decides}
use Rattle.binary.specs.TwoRun.{two_refusal}
use Rattle.binary.proofs.refusal.Goals as goal

pub returns-in_err-systems_refusal : goal.returns-in_err-systems_refusal
unfolding two_refusal
returns-in_err-systems_refusal c =
    let p = err_from_is_err_and c.from_residual.result c.from_residual.ensures.1 in
    ap outcome_number (p.1 ∙ ap Err p.2) ∙ system_decides _ _ c.in_err-systems_refusal.ensures (λ z. omega (arith, numbered c.in_err-systems_refusal.field-0.0, z))

pub returns-then-state_kept : goal.returns-then-state_kept
unfolding two_refusal
returns-then-state_kept c = state_decides _ _ c.in_ok-systems_refusal.ensures refl (sym c.state_kept.ensures ∙ c.if-state_kept.true)

pub returns-else-state_kept : goal.returns-else-state_kept
unfolding two_refusal
returns-else-state_kept c = state_decides _ _ c.in_ok-systems_refusal.ensures refl (sym c.state_kept.ensures ∙ c.if-state_kept.false)

-- `binary::run_lent` meets its contract: what is refused is left untouched, and what is not is a run of steps.
use Rattle.whole.proofs.Laws.{sym, ap, ◌∙◌, arith, ℕ}
use Rattle.refusals.proofs.Numbers.{numbered}
use Rattle.refusals.specs.Numbers.{outcome_number}
use Rattle.runs.proofs.Laws.{stopped}
use Rattle.states.proofs.Laws.{Refused}
use Rattle.binary.specs.TwoRun.{leaves}
use Rattle.binary.proofs.TwoJudging.{two_ready}
use Rattle.binary.proofs.TwoRuns.{run_accepted, refused_untouched}
use Rattle.binary.proofs.run_lent.Goals as goal
use Rattle.digits.specs.Orders.{viewed}

pub returns-in-Err : goal.returns-in-Err
returns-in-Err c =
    let a = c.args in
    let e = sym (ap outcome_number c.in-Err.is) ∙ c.refusal.ensures in
    ap (λ (n : ℕ). leaves (stopped (Refused n) a.state) a.output.now) (c.number.ensures ∙ e) ∙
    sym (refused_untouched (viewed a.inputs) (viewed a.outputs) a.state a.xs.now a.ys.now a.output.now (λ z. omega (arith, numbered c.in-Err.refusal, e, z)))

-- nothing is refused
pub run_judged-requires : goal.run_judged-requires
run_judged-requires c = two_ready _ c.args.state (sym c.refusal.ensures ∙ ap outcome_number c.in-Ok.is)

pub returns-in-Ok : goal.returns-in-Ok
returns-in-Ok c =
    let a = c.args in
    c.run_judged.ensures ∙
    sym (run_accepted (viewed a.inputs) (viewed a.outputs) a.state a.xs.now a.ys.now a.output.now (sym c.refusal.ensures ∙ ap outcome_number c.in-Ok.is))

-- `two_call::run` meets its contract: slices of the wrong length are refused, and what a run leaves is written back as numbers.
use Rattle.whole.proofs.Laws.{◌∙◌, eq-eqb, ne_eqb}
use Rattle.two_call.specs.TwoCall.{two_call_of}
use Rattle.two_call.proofs.Ran.{ran_two_lem, right_lengths}
use Rattle.two_call.proofs.run.Goals.{then-state-ne11-via-then-state-ne11, then-state-ne11-via-else-state-ne11+then-counts-ne3}
use Rattle.two_call.proofs.run.Goals as goal

pub returns-in_default : goal.returns-in_default
unfolding two_call_of
returns-in_default c = rw (eq-eqb _ _ c.in_default.ensures.0, ne_eqb _ _ c.in_default.ensures')

pub returns-in_default-2 : goal.returns-in_default-2
unfolding two_call_of
returns-in_default-2 c = rw (ne_eqb _ _ (rw c.in_default.is-0 at c.system_from.ensures))

pub returns-then-state-ne11 : goal.returns-then-state-ne11
unfolding two_call_of
returns-then-state-ne11 c = let s = c.in-Some-Some in elim c.then-state-ne11.branch [
  | then-state-ne11-via-then-state-ne11 w ↦ rw (eq-eqb _ _ s.ensures.0, eq-eqb _ _ s.ensures'.0, ne_eqb _ _ w.if-state-ne11.true)
  | then-state-ne11-via-else-state-ne11+then-counts-ne3 w ↦ rw (eq-eqb _ _ s.ensures.0, eq-eqb _ _ s.ensures'.0, eq-eqb _ _ w.if-state-ne11.false, ne_eqb _ _ w.if-counts-ne3.true)
]

pub returns : goal.returns
returns c =
    let a = c.args in
    let s = c.in-Some-Some in
    ran_two_lem a.state.now c.run_lent-a.ensures c.put_answer.ensures
    ∙ right_lengths a.xs.now a.ys.now a.state.now a.output.now a.counts.now s.ensures s.ensures' c.if-state-ne11.false c.if-counts-ne3.false c.state_from.ensures

-- `run_call::put_answer` meets its contract, by whether the run was refused.
use Rattle.whole.proofs.Laws.{sym, ◌∙◌}
use Rattle.numbers.proofs.Laws.{state_after}
use Rattle.run_call.proofs.put_answer.Goals.{then-not-refused, else-not-refused}
use Rattle.run_call.proofs.put_answer.Goals as goal

pub returns : goal.returns
unfolding state_after
returns c = (
  c.from.ensures ∙ c.end_number.ensures,
  elim c.if-not-refused.branch [
    | then-not-refused w ↦ w.state-is ∙ rw (sym c.refused.ensures ∙ w.if-not-refused.true) w.put_state.ensures
    | else-not-refused w ↦ w.state-is ∙ rw (sym c.refused.ensures ∙ w.if-not-refused.false)
  ],
  c.copy_from_slice.ensures.after,
)

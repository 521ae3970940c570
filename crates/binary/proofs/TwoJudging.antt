-- What is judged before any step over two words: nothing is refused exactly if both systems are admitted and the state keeps the rules for a state; a refusal has one of the
-- numbers that a run over one word has.
use Rattle.whole.proofs.Laws.{◌≡◌, ◌⊎◌, ◌↔◌}
use Rattle.admission.proofs.Laws.{Admitted, admission_of}
use Rattle.steps.proofs.Laws.{Setting}
use Rattle.judging.proofs.Laws.{RefusalNumber, accepted_by, refusal_number_by, usable}
use Rattle.two_states.proofs.Laws.{TwoState, TwoRules, two_state?, two_rules_say}
use Rattle.two_steps.proofs.Laws.{Ready}
use Rattle.binary.specs.TwoRun.{two_refusal}

module _ (y : Setting) (s : TwoState) where
  pub two_accepted : (two_refusal y s ≡ 0) ↔ ((admission_of y.input ≡ Admitted) × (admission_of y.output ≡ Admitted) × TwoRules y.input.count s)
  unfolding two_refusal
  two_accepted =
      let by = accepted_by y (two_state? y.input.count s) in
      let says = two_rules_say y.input.count s in (
        λ e. let a = by.0 e in (a.input, a.output, says.0 a.state),
        λ a. by.1 (record { input = a.0; output = a.1; state = says.1 a.2 }),
      )

  pub two_refusal_number : (two_refusal y s ≡ 0) ⊎ RefusalNumber (two_refusal y s)
  unfolding two_refusal
  two_refusal_number = refusal_number_by y (two_state? y.input.count s)

  -- so the steps of a run may rely on all of that
  pub two_ready : two_refusal y s ≡ 0 → Ready y s
  two_ready e = let a = two_accepted.0 e in record { input = usable y.input a.0; output = usable y.output a.1; state = a.2 }

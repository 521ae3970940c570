-- "A run judges its input system (3, 6 to 10), its output system, then the state (12), before any step": it is refused by n exactly if document 01's sentence for n holds of
-- the first of the three that breaks its rules, and by nothing exactly if all three keep them.
-- The argument: where a sentence holds, the judgements before it pass and its own decides (`refused_only`); and some sentence holds (`some_refusal`), since each system is
-- admissible or has another case (crates/admission), and the state keeps the rules or does not.
use Rattle.whole.proofs.Laws.{◌≡◌, refl, sym, ap, subst, ◌∙◌, Bool, true, false, false≢true, ◌⊎◌, inl, inr, ◌↔◌, ℕ, ◌≤◌, ℕ_discrete, arith, unless_refused, decided, false_by}
use Rattle.digits.proofs.Laws.{System}
use Rattle.admission.proofs.Laws.{Admitted, admission_of, refusal_number, Admissible, SystemCase, admitted_says, admitted_exactly, number_0}
use Rattle.admission.specs.Types.{Admission}
use Rattle.states.proofs.Laws.{State}
use Rattle.steps.proofs.Laws.{Setting}
use Rattle.judging.proofs.Laws.{refusal_by, refusal_of, state?, state_says, accepted}
use Rattle.exactly_when.specs.Ends.{RefusedBy, input_system, output_system, state, Passes}

-- the number of a refused system is not 0
not_0 : (v : Admission) → (v ≡ Admitted → ⊥) → refusal_number v ≡ 0 → ⊥
not_0 v f e = f (number_0 v e)

pub refused_not_0 : {y : Setting} {s : State} {n : ℕ} → RefusedBy y s n → n ≡ 0 → ⊥
refused_not_0 (input_system v c f) = not_0 v f
refused_not_0 (output_system a v c f) = not_0 v f
refused_not_0 (state a b f) = λ e. omega (arith, e)

pub refused_only : {y : Setting} {s : State} {n : ℕ} → RefusedBy y s n → refusal_of y s ≡ n
unfolding refusal_of refusal_by unless_refused
refused_only {y} {s} (input_system v c f) = rw ((admitted_exactly y.input v).1 c) (decided _ _ (not_0 v f))
refused_only {y} {s} (output_system a v c f) = rw ((admitted_exactly y.input Admitted).1 a, (admitted_exactly y.output v).1 c) (decided _ _ (not_0 v f))
refused_only {y} {s} (state a b f) =
    rw ((admitted_exactly y.input Admitted).1 a, (admitted_exactly y.output Admitted).1 b, false_by (state? y.input.count s) (λ e. f ((state_says y.input.count s).0 e)))

pub passes_exactly : (y : Setting) (s : State) → (refusal_of y s ≡ 0) ↔ Passes y s
passes_exactly y s = (
  λ e. let a = (accepted y s).0 e in
      record { input = (admitted_exactly y.input Admitted).0 a.input; output = (admitted_exactly y.output Admitted).0 a.output; state = a.state },
  λ p. (accepted y s).1
      (record { input = (admitted_exactly y.input Admitted).1 p.input; output = (admitted_exactly y.output Admitted).1 p.output; state = p.state }),
)

-- ---- some sentence holds

judged : (a : System) → Admissible a ⊎ ((v : Admission) × SystemCase a v × (v ≡ Admitted → ⊥))
judged a = elim (ℕ_discrete (refusal_number (admission_of a)) 0) [
  | yes e ↦ inl (subst (SystemCase a) (number_0 (admission_of a) e) (admitted_says a))
  | no f ↦ inr (admission_of a, admitted_says a, λ e. f (ap refusal_number e))
]

pub some_refusal : (y : Setting) (s : State) → Passes y s ⊎ RefusedBy y s (refusal_of y s)
some_refusal y s = elim (judged y.input) [
  | inr r ↦ refused (input_system r.0 r.1 r.2)
  | inl a ↦ elim (judged y.output) [
    | inr r ↦ refused (output_system a r.0 r.1 r.2)
    | inl b ↦ by (state? y.input.count s) refl a b
  ]
]
  where
    refused : {n : ℕ} → RefusedBy y s n → Passes y s ⊎ RefusedBy y s (refusal_of y s)
    refused r = inr (subst (RefusedBy y s) (sym (refused_only r)) r)

    by : (t : Bool) → state? y.input.count s ≡ t → Admissible y.input → Admissible y.output → Passes y s ⊎ RefusedBy y s (refusal_of y s)
    by true e a b = inl (record { input = a; output = b; state = (state_says y.input.count s).0 e })
    by false e a b = refused (state a b (λ k. false≢true (sym e ∙ (state_says y.input.count s).1 k)))

pub refused_exactly : (y : Setting) (s : State) (n : ℕ) → 1 ≤ n → (refusal_of y s ≡ n) ↔ RefusedBy y s n
refused_exactly y s n k = (
  λ e. elim (some_refusal y s) [ inl p ↦ absurd (omega (arith, e, k, (passes_exactly y s).1 p)) | inr r ↦ subst (RefusedBy y s) e r ],
  refused_only,
)

-- The range of what a run over two words leaves in lent numbers. A run that is not refused stops with an end, 0 or 20 to 22, its state keeps the rules, and the eleven numbers
-- are those of that state. A run that is refused leaves the state and the output as they were.
use Rattle.whole.proofs.Laws.{◌≡◌, refl, sym, subst, List, ◌⊎◌, inl, inr, ℕ, ◌≤◌, arith, ℤ, pos}
use Rattle.digits.proofs.Laws.{System}
use Rattle.bilinear.proofs.Laws.{WithinForm}
use Rattle.states.proofs.Laws.{HeldDigit, EndNumber}
use Rattle.steps.proofs.Laws.{setting}
use Rattle.judging.proofs.Laws.{RefusalNumber}
use Rattle.two_states.proofs.Laws.{Turn, OfX, OfY, TwoState}
use Rattle.binary.proofs.Laws.{TwoEnd, TwoRan, two_refusal, two_run, in_range, refused_untouched, two_refusal_number}
use Rattle.two_call.proofs.Laws.{two_numbers, two_from, two_after}
use Rattle.two_call.specs.TwoNumbers.{turn_number}
use Rattle.two_call.specs.TwoCall.{ran_two}
use Rattle.answers.specs.TwoCalls.{TwoStateInRange, RunTwoInRange}
use Rattle.answers.proofs.Runs.{held_in_range, refusal_bounds, end_apart, end_few}

-- ---- a state's numbers

turn_in_range : (t : Turn) → (turn_number t ≡ pos 0) ⊎ (turn_number t ≡ pos 1)
turn_in_range OfX = inl refl
turn_in_range OfY = inr refl

pub two_state_in_range : {most count : ℕ} (s : TwoState) → WithinForm most s.form → HeldDigit count s.x → HeldDigit count s.y → TwoStateInRange most count (two_numbers s)
unfolding two_numbers
two_state_in_range {count = count} s w hx hy =
    let over = w.over in
    let under = w.under in
    record {
      eleven = refl;
      over = record { n0 = over.n0; n1 = over.n1; n2 = over.n2; n3 = over.n3 };
      under = record { n0 = under.n0; n1 = under.n1; n2 = under.n2; n3 = under.n3 };
      held_x = held_in_range count s.x hx;
      held_y = held_in_range count s.y hy;
      turn = turn_in_range s.turn;
    }

-- ---- the ends

end_among : {n : ℕ} → TwoEnd n → EndNumber n
end_among (inl e) = inl e
end_among (inr h) = inr (inr h)

pub two_end_few : {n : ℕ} → TwoEnd n → n ≤ 22
two_end_few h = end_few (end_among h)

two_apart : {n : ℕ} → TwoEnd n → RefusalNumber n → ⊥
two_apart h r = end_apart (end_among h) r

-- ---- any run

module _ (a b : System) (xs ys : List ℕ) (old : List ℤ) (output counts : List ℕ) where
  abbrev s : TwoState
  s = two_from old

  abbrev Ranges : TwoRan → Type 0
  Ranges r = RunTwoInRange a.count b.count xs ys old output counts (ran_two r old)

  accepted_in_range : two_refusal (setting a b) s ≡ 0 → Ranges (two_run a b s xs ys output)
  unfolding two_after two_run
  accepted_in_range e =
      let r = two_run a b s xs ys output in
      let k = in_range a b s xs ys output in
      let end = k.ended e in
      let number = end.number in
      let kept = k.state e in
      record {
        number = inl (inl number);
        room = k.room;
        three = λ h. record { three = refl; taken_x = k.taken_x; taken_y = k.taken_y; written = k.written };
        digits = λ h. k.digits;
        state = λ h. rw end.not_refused (two_state_in_range r.answer.state kept.in_range kept.held_x kept.held_y);
        refused = λ h. absurd (two_apart number h);
        untouched = λ h. absurd (omega (arith, h, two_end_few number));
      }

  refused_in_range : (two_refusal (setting a b) s ≡ 0 → ⊥) → RefusalNumber (two_refusal (setting a b) s) → Ranges (two_run a b s xs ys output)
  unfolding two_after
  refused_in_range f n = subst Ranges (sym (refused_untouched a b s xs ys output f)) (record {
    number = inl (inr n);
    room = refl;
    three = λ h. absurd (two_apart h n);
    digits = λ h. absurd (two_apart h n);
    state = λ h. absurd (two_apart h n);
    refused = λ h. refl;
    untouched = λ h. absurd (omega (arith, h, (refusal_bounds n).1));
  })

  pub ran_two_in_range : Ranges (two_run a b s xs ys output)
  ran_two_in_range = elim (two_refusal_number (setting a b) s) [
    | inl e ↦ accepted_in_range e
    | inr n ↦ refused_in_range (λ e. two_apart (inl e) n) n
  ]

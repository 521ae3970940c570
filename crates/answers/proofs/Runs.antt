-- The range of what a run leaves in lent numbers. A run that is not refused stops with an end, 0, 15 or 20 to 22, its state keeps the rules, and the five numbers are those
-- of that state. A run that is refused leaves the state, the output and the list as they were.
use Rattle.whole.proofs.Laws.{◌≡◌, refl, sym, subst, List, inl, inr, ℕ, ◌<◌, ◌≤◌, arith, ℤ, pos, negsuc, Within, up<}
use Rattle.digits.proofs.Laws.{System}
use Rattle.states.proofs.Laws.{Held, None, Some, State, HeldDigit, EndNumber}
use Rattle.steps.proofs.Laws.{setting}
use Rattle.judging.proofs.Laws.{refusal_of, RefusalNumber, refusal_number_lem}
use Rattle.unary.proofs.Laws.{Ran, run_of, in_range, refused_untouched}
use Rattle.numbers.proofs.Laws.{state_after, state_numbers}
use Rattle.numbers.specs.Numbers.{held_number, state_from}
use Rattle.run_call.specs.RunCall.{ran_call}
use Rattle.answers.specs.Calls.{HeldInRange, StateInRange, RunInRange}

-- ---- a state's numbers

digit_in_range : {count d : ℕ} → d < count → HeldInRange count (pos d)
digit_in_range h = record { from = record { le = tt }; below = up< h }

none_in_range : (count : ℕ) → HeldInRange count (negsuc 0)
none_in_range count = record { from = record { le = tt }; below = record { lt = tt } }

pub held_in_range : (count : ℕ) (h : Held) → HeldDigit count h → HeldInRange count (held_number h)
held_in_range count None k = none_in_range count
held_in_range count (Some d) k = digit_in_range k

pub state_in_range : {most count : ℕ} (s : State) → Within most s.matrix → HeldDigit count s.held → StateInRange most count (state_numbers s)
unfolding state_numbers
state_in_range {count = count} s w h = record { five = refl; entries = record { n0 = w.n0; n1 = w.n1; n2 = w.n2; n3 = w.n3 }; held = held_in_range count s.held h }

-- ---- an end and a refusal have no number in common

pub refusal_bounds : {n : ℕ} → RefusalNumber n → (3 ≤ n) × (n ≤ 18) × (n ≡ 15 → ⊥)
refusal_bounds (inl (inl e)) = (omega (arith, e), omega (arith, e), λ f. omega (arith, e, f))
refusal_bounds (inl (inr (inl h))) = (omega (arith, h.0), omega (arith, h.1), λ f. omega (arith, h.1, f))
refusal_bounds (inl (inr (inr e))) = (omega (arith, e), omega (arith, e), λ f. omega (arith, e, f))
refusal_bounds (inr e) = (omega (arith, e), omega (arith, e), λ f. omega (arith, e, f))

pub end_few : {n : ℕ} → EndNumber n → n ≤ 22
end_few (inl e) = omega (arith, e)
end_few (inr (inl e)) = omega (arith, e)
end_few (inr (inr h)) = h.1

pub end_apart : {n : ℕ} → EndNumber n → RefusalNumber n → ⊥
end_apart (inl e) r = omega (arith, e, (refusal_bounds r).0)
end_apart (inr (inl e)) r = (refusal_bounds r).2 e
end_apart (inr (inr h)) r = omega (arith, h.0, (refusal_bounds r).1)

-- ---- any run

module _ (a b : System) (input : List ℕ) (old : List ℤ) (output divisors counts : List ℕ) where
  abbrev s : State
  s = state_from old

  abbrev Ranges : Ran → Type 0
  Ranges r = RunInRange a.count b.count input old output divisors counts (ran_call r old)

  accepted_in_range : refusal_of (setting a b) s ≡ 0 → Ranges (run_of a b s input output divisors)
  unfolding state_after
  accepted_in_range e =
      let r = run_of a b s input output divisors in
      let k = in_range a b s input output divisors in
      let end = k.ended e in
      record {
        number = inl (inl end.number);
        room = k.room;
        list_room = k.list_room;
        three = λ h. record { three = refl; taken = k.taken; written = k.written; listed = k.listed };
        digits = λ h. k.digits;
        divisors = λ h. k.divisors;
        state = λ h. rw end.not_refused (state_in_range r.answer.state (k.state e).in_range (k.state e).held_digit);
        refused = λ h. absurd (end_apart end.number h);
        untouched = λ h. absurd (omega (arith, h, end_few end.number));
      }

  refused_in_range : (refusal_of (setting a b) s ≡ 0 → ⊥) → RefusalNumber (refusal_of (setting a b) s) → Ranges (run_of a b s input output divisors)
  unfolding state_after
  refused_in_range f n = subst Ranges (sym (refused_untouched a b s input output divisors f)) (record {
    number = inl (inr n);
    room = refl;
    list_room = refl;
    three = λ h. absurd (end_apart h n);
    digits = λ h. absurd (end_apart h n);
    divisors = λ h. absurd (end_apart h n);
    state = λ h. absurd (end_apart h n);
    refused = λ h. refl;
    untouched = λ h. absurd (omega (arith, h, (refusal_bounds n).1));
  })

  pub ran_in_range : Ranges (run_of a b s input output divisors)
  ran_in_range = elim (refusal_number_lem (setting a b) s) [
    | inl e ↦ accepted_in_range e
    | inr n ↦ refused_in_range (λ e. end_apart (inl e) n) n
  ]

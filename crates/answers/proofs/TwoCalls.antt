-- The range of what the C functions for two words answer, and of what they leave in the lent numbers: of wrong lengths 40, and all as it was; else what the library's
-- functions answer, as numbers.
use Rattle.whole.proofs.Laws.{◌≡◌, refl, Bool, true, false, cond, List, inl, inr, ℕ, arith, eqb, length, ℤ, within?, within_says}
use Rattle.bilinear.proofs.Laws.{over_one, sum_form, difference_form, product_form}
use Rattle.digits.proofs.Laws.{StoredSystem, system_of}
use Rattle.numbers.proofs.Laws.{wrong_length, wrote}
use Rattle.two_states.proofs.Laws.{TwoState, opened_two, opened_sum, opened_difference, opened_product}
use Rattle.binary.proofs.Laws.{two_run}
use Rattle.two_call.proofs.Laws.{after_two, two_numbers, two_from, two_opened, two_call_of}
use Rattle.two_call.specs.TwoCall.{ran_two, two_lengths?}
use Rattle.answers.specs.TwoCalls.{OpenTwoInRange, RunTwoInRange}
use Rattle.answers.proofs.Runs.{refusal_bounds}
use Rattle.answers.proofs.TwoRuns.{two_end_few, two_state_in_range, ran_two_in_range}

-- ---- opening

-- a numerator of −1, 0 and 1, over 1
opened_in_range : (over : List ℤ) → within? 1 over ≡ true → (old : List ℤ) → OpenTwoInRange old (two_opened (opened_two (over_one over)) old)
unfolding two_opened two_numbers within?
opened_in_range over small old = by (eqb (length old) 11)
  where
    s : TwoState
    s = opened_two (over_one over)

    by : (t : Bool) → OpenTwoInRange old (cond t (wrote 0 (two_numbers s)) (wrote wrong_length old))
    by true = record {
      number = inl refl;
      state = λ z. two_state_in_range s (record { over = within_says 1 over small; under = within_says 1 s.form.denominator refl }) tt tt;
      x_first = λ z. refl;
      untouched = λ h. absurd (omega (arith, h));
    }
    by false = record { number = inr refl; state = λ z. absurd (omega (arith, z)); x_first = λ z. absurd (omega (arith, z)); untouched = λ h. refl }

pub sled_open_two_in_range : (old : List ℤ) → OpenTwoInRange old (two_opened opened_sum old) × OpenTwoInRange old (two_opened opened_difference old) × OpenTwoInRange old (two_opened opened_product old)
unfolding within?
sled_open_two_in_range old = (opened_in_range sum_form.numerator refl old, opened_in_range difference_form.numerator refl old, opened_in_range product_form.numerator refl old)

-- ---- a run

pub sled_run_two_in_range : (a b : StoredSystem) (xs ys : List ℕ) (old : List ℤ) (output counts : List ℕ) →
    RunTwoInRange a.count b.count xs ys old output counts (two_call_of a b xs ys old output counts)
unfolding two_call_of
sled_run_two_in_range a b xs ys old output counts = by (two_lengths? a b old counts)
  where
    by : (t : Bool) → RunTwoInRange a.count b.count xs ys old output counts
        (cond t (ran_two (two_run (system_of a) (system_of b) (two_from old) xs ys output) old) (after_two wrong_length old output counts))
    by true = ran_two_in_range (system_of a) (system_of b) xs ys old output counts
    by false = record {
      number = inr refl;
      room = refl;
      three = λ h. absurd (omega (arith, two_end_few h));
      digits = λ h. absurd (omega (arith, two_end_few h));
      state = λ h. absurd (omega (arith, two_end_few h));
      refused = λ h. absurd (omega (arith, (refusal_bounds h).1));
      untouched = λ h. refl;
    }

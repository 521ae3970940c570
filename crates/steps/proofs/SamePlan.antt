-- "What is kept for the digits a system hasn't got .. no answer depends on it": where two settings have the same digits, a state that holds a digit of the input system,
-- or none, has the same plan in both. A plan reads the held digit's interval and transformation, the intervals of the output digits and the transformation of the one
-- that fits: all of these are digits of their systems.
use Rattle.whole.proofs.Laws.{◌≡◌, refl, ap, ◌∙◌, List, Option, none, some, ℕ, ◌≤◌, ltb-true, ltb, ℤ}
use Rattle.plane.proofs.Laws.{multiply_of, pseudoinverse_of, image_of}
use Rattle.digits.proofs.Laws.{SameDigits}
use Rattle.fitting.proofs.Laws.{fitting_of, same_fitting}
use Rattle.runs.proofs.Laws.{Supply, nothing, Going, Each, digit, took_x, gave, follow_each, each_test}
use Rattle.states.proofs.Laws.{Held, None, Some, State, NoRoom, NotADigit, loaded, given, absorbed, HeldDigit}
use Rattle.steps.specs.Step.{Setting, cancelled_plan, load_plan, chosen, given_matrix, absorbed_matrix, held_plan, plan_by, plan, plain}
use Rattle.steps.proofs.Cancelled.{each_cancelled}
use Rattle.steps.proofs.Kept.{chosen_below}

module _ (y z : Setting) (same_in : SameDigits y.input z.input) (same_out : SameDigits y.output z.output) (few_in : y.input.count ≤ 16) (few_out : y.output.count ≤ 16) where
  same_held : (s : State) (h : ℕ) → HeldDigit y.input.count (Some h) → (o : Option ℕ) → chosen y s h ≡ o → held_plan y s h o ≡ held_plan z s h o
  same_held s h k none e = ap (λ (f : List ℤ). cancelled_plan (absorbed s) (multiply_of s.matrix f)) (same_in.transformations few_in h k)
  same_held s h k (some b) e =
      ap (λ (g : List ℤ). digit NoRoom b (cancelled_plan (given s) (multiply_of (pseudoinverse_of g) s.matrix))) (same_out.transformations few_out b (chosen_below y s h b e))

  by_held : (s : State) (h : Held) → HeldDigit y.input.count h → plan_by y s h ≡ plan_by z s h
  by_held s None k = ap (λ (n : ℕ). load_plan n s) same_in.count
  by_held s (Some h) k =
      same_held s h k (chosen y s h) refl ∙
      ap (held_plan z s h) (ap (λ (w : List ℤ). fitting_of y.output (image_of s.matrix w)) (same_in.intervals few_in h k) ∙ same_fitting same_out few_out _)

  pub same_plan : (s : State) → HeldDigit y.input.count s.held → plan y s ≡ plan z s
  same_plan s k = by_held s s.held k

-- what is held stays a digit of the input system, whatever the systems are
held_stays : (y : Setting) (s : State) (h : Held) → HeldDigit y.input.count s.held → Each (λ t d. HeldDigit y.input.count t.held) nothing (plan_by y s h)
unfolding Each
held_stays y s None k = λ b. each_test (λ t d. HeldDigit y.input.count t.held) (took_x b) (ltb b y.input.count) (loaded s b) NotADigit (ltb-true b y.input.count)
held_stays y s (Some h) k = by (chosen y s h)
  where
    by : (o : Option ℕ) → Each (λ t d. HeldDigit y.input.count t.held) nothing (held_plan y s h o)
    by (some b) = each_cancelled (given s) (given_matrix y.output s b) _ (gave b) (λ w. k)
    by none = each_cancelled (absorbed s) (absorbed_matrix y.input s h) _ nothing (λ w. tt)

pub step_holds : (y : Setting) (s : State) (r : Supply) → HeldDigit y.input.count s.held → Going (λ t d. HeldDigit y.input.count t.held) ((plain y).step s r)
step_holds y s r k = follow_each (λ t d. HeldDigit y.input.count t.held) (plan y s) (held_stays y s s.held k) r

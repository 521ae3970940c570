-- Numbers that are kept for digits which a system hasn't got change no step over two words: its plan looks at the held digits' intervals and transformations, the intervals of the
-- output digits and the transformation of the one that is given out: all of these are digits of their systems. And what is held stays a digit of the input system.
use Rattle.whole.proofs.Laws.{◌≡◌, refl, ap, ap₂, ◌∙◌, List, Option, none, some, ℕ, ◌≤◌, ℤ}
use Rattle.bilinear.proofs.Laws.{into_x, into_y, given_form, cancel_form}
use Rattle.digits.proofs.Laws.{SameDigits}
use Rattle.giving.proofs.Laws.{images_of, giving_of, same_giving}
use Rattle.runs.proofs.Laws.{Supply, Going, digit}
use Rattle.states.proofs.Laws.{Held, None, Some, NoRoom, HeldDigit}
use Rattle.steps.proofs.Laws.{Setting}
use Rattle.two_states.proofs.Laws.{Turn, OfX, OfY, TwoState, given_two, absorbed_x, absorbed_y}
use Rattle.two_steps.specs.TwoStep.{ranged, load_x, load_y, choice, absorb, both_held, plan_by, two_plan, pairs}
use Rattle.two_steps.proofs.Ways.{Onward, chosen_below, step_goes}

-- what is held is a digit of the input system, if that has n digits
pub record Holds (n : ℕ) (s : TwoState) : Type 0 where
  pub x : HeldDigit n s.x
  pub y : HeldDigit n s.y

module _ (y z : Setting) (same_in : SameDigits y.input z.input) (same_out : SameDigits y.output z.output) (few_in : y.input.count ≤ 16) (few_out : y.output.count ≤ 16)
    (s : TwoState) where
  abbrev Within : ℕ → Type 0
  Within a = HeldDigit y.input.count (Some a)

  same_choice : (a b : ℕ) → Within a → Within b → choice y s a b ≡ choice z s a b
  same_choice a b k l =
      ap₂ (λ (v w : List ℤ). giving_of y.output (images_of s.form v w)) (same_in.intervals few_in a k) (same_in.intervals few_in b l) ∙ same_giving same_out few_out _

  same_turn : (a b : ℕ) → Within a → Within b → (w : Turn) → absorb y.input s a b w ≡ absorb z.input s a b w
  same_turn a b k l OfX = ap (λ (f : List ℤ). ranged (absorbed_x s (cancel_form (into_x s.form f)))) (same_in.transformations few_in a k)
  same_turn a b k l OfY = ap (λ (f : List ℤ). ranged (absorbed_y s (cancel_form (into_y s.form f)))) (same_in.transformations few_in b l)

  same_both : (a b : ℕ) → Within a → Within b → (o : Option ℕ) → choice y s a b ≡ o → both_held y s a b o ≡ both_held z s a b o
  same_both a b k l (some c) e =
      ap (λ (g : List ℤ). digit NoRoom c (ranged (given_two s (cancel_form (given_form g s.form))))) (same_out.transformations few_out c (chosen_below y s a b c e))
  same_both a b k l none e = same_turn a b k l s.turn

  by_held : (h j : Held) → HeldDigit y.input.count h → HeldDigit y.input.count j → plan_by y s h j ≡ plan_by z s h j
  by_held None j k l = ap (λ (n : ℕ). load_x n s) same_in.count
  by_held (Some a) None k l = ap (λ (n : ℕ). load_y n s) same_in.count
  by_held (Some a) (Some b) k l = same_both a b k l (choice y s a b) refl ∙ ap (both_held z s a b) (same_choice a b k l)

  pub same_plan : Holds y.input.count s → two_plan y s ≡ two_plan z s
  same_plan k = by_held s.x s.y k.x k.y

-- what is held stays so, whatever the systems are
pub step_holds : (y : Setting) (s : TwoState) (r : Supply) → Holds y.input.count s → Going (λ t d. Holds y.input.count t) ((pairs y).step s r)
step_holds y s r k = step_goes y s (λ t d. Holds y.input.count t) holds r
  where
    holds : Onward y s (λ t d. Holds y.input.count t)
    holds = record {
      load_x_lem = λ a e below. record { x = below; y = k.y };
      load_y_lem = λ b e below. record { x = k.x; y = below };
      give = λ a b c e f chosen w. record { x = k.x; y = k.y };
      absorb_x = λ a e w. record { x = tt; y = k.y };
      absorb_y = λ b e w. record { x = k.x; y = tt };
    }

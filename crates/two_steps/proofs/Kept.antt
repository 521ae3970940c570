-- Every step over two words keeps the rules for a state, and every digit that it gives out is one of the output system's. Loading keeps the eight numbers and holds a byte that was
-- tested; giving and absorbing make eight numbers that are not all 0, since the old ones are not and the digit's determinant is above 0, so what is cancelled has the greatest
-- common divisor 1; the range was tested.
use Rattle.whole.proofs.Laws.{◌≡◌, refl, subst, ℕ, ◌<◌}
use Rattle.bilinear.proofs.Laws.{Form, into_x, into_y, given_form, cancel_form, gcd8, cancel_form_lowest, into_x_above, into_y_above, given_above}
use Rattle.digits.proofs.Laws.{transformation}
use Rattle.admission.proofs.Laws.{Digits}
use Rattle.runs.proofs.Laws.{Supply, Deed, nothing, and_then, Going, took_x, took_y, gave}
use Rattle.states.proofs.Laws.{Some, Held, HeldDigit}
use Rattle.steps.proofs.Laws.{Setting, every_both, Below}
use Rattle.two_states.proofs.Laws.{TwoState, TwoRules}
use Rattle.two_steps.specs.TwoStep.{pairs}
use Rattle.two_steps.proofs.Ways.{InRange, Onward, chosen_below, step_goes}

-- the digits written so far, and the state
pub record Kept (y : Setting) (d : Deed) (t : TwoState) : Type 0 where
  pub digits : Below y.output.count d.digits
  pub state : TwoRules y.input.count t

-- a held digit is one of the input system's
pub held_below : {n a : ℕ} {h : Held} → HeldDigit n h → h ≡ Some a → a < n
held_below {n} k e = subst (HeldDigit n) e k

module _ (y : Setting) (inputs : Digits y.input) (outputs : Digits y.output) (a : Deed) (s : TwoState) (k : Kept y a s) where
  abbrev n : ℕ
  n = y.input.count

  -- what one step adds to what was done
  adds : (d : Deed) {t : TwoState} → Below y.output.count d.digits → TwoRules n t → Kept y (and_then a d) t
  adds d digits state = record { digits = every_both (λ c. c < y.output.count) a.digits d.digits k.digits digits; state = state }

  -- eight numbers that are not all 0, cancelled
  fresh : (m : Form) {t : TwoState} → t.form ≡ cancel_form m → 0 < gcd8 m → InRange t.form → HeldDigit n t.x → HeldDigit n t.y → TwoRules n t
  fresh m e p w x-held y-held = record { cancelled = rw e (cancel_form_lowest m p); in_range = w; held_x = x-held; held_y = y-held }

  keeps : Onward y s (λ t d. Kept y (and_then a d) t)
  keeps =
      let old = k.state in
      record {
        load_x_lem = λ b e below. adds (took_x b) tt (record { cancelled = old.cancelled; in_range = old.in_range; held_x = below; held_y = old.held_y });
        load_y_lem = λ b e below. adds (took_y b) tt (record { cancelled = old.cancelled; in_range = old.in_range; held_x = old.held_x; held_y = below });
        give = λ i j c e f chosen w.
            let digit = chosen_below y s i j c chosen in
            let g = transformation y.output c in
            adds (gave c) (digit, tt) (fresh (given_form g s.form) refl (given_above g s.form old.cancelled (outputs c digit).above) w old.held_x old.held_y);
        absorb_x = λ i e w.
            let f = transformation y.input i in
            adds nothing tt (fresh (into_x s.form f) refl (into_x_above s.form f old.cancelled (inputs i (held_below old.held_x e)).above) w tt old.held_y);
        absorb_y = λ j e w.
            let f = transformation y.input j in
            adds nothing tt (fresh (into_y s.form f) refl (into_y_above s.form f old.cancelled (inputs j (held_below old.held_y e)).above) w old.held_x tt);
      }

  pub step_keeps : (r : Supply) → Going (λ t d. Kept y (and_then a d) t) ((pairs y).step s r)
  step_keeps r = step_goes y s (λ t d. Kept y (and_then a d) t) keeps r

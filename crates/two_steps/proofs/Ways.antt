-- The ways of a step: it goes on in five, each with what was tested before it (`Onward`), and it stops in four. What is to be shown of every step is shown of each of these.
use Rattle.whole.proofs.Laws.{◌≡◌, refl, Option, none, some, ℕ, ◌<◌, ltb, ltb-true}
use Rattle.bilinear.proofs.Laws.{Form, into_x, into_y, given_form, cancel_form, WithinForm, within_form?}
use Rattle.digits.proofs.Laws.{transformation}
use Rattle.giving.proofs.Laws.{giving_exactly}
use Rattle.runs.proofs.Laws.{Supply, Deed, nothing, Going, Halting, Each, EachStop, took_x, took_y, gave, follow_each, each_test, follow_halts, stop_test}
use Rattle.states.proofs.Laws.{Held, None, Some, Stop, InputUsed, NoRoom, NotADigit, RangeLeft}
use Rattle.steps.proofs.Laws.{Setting}
use Rattle.two_states.proofs.Laws.{Turn, OfX, OfY, TwoState, loaded_x, loaded_y, given_two, absorbed_x, absorbed_y, within_form_says}
use Rattle.two_steps.specs.TwoStep.{ranged, choice, absorb, both_held, plan_by, two_plan, pairs}

-- the digit that is chosen is one of the output system's
pub chosen_below : (y : Setting) (s : TwoState) (a b c : ℕ) → choice y s a b ≡ some c → c < y.output.count
chosen_below y s a b c e = ((giving_exactly y.output _ (some c)).0 e).0

-- ---- the new eight numbers: a digit c is given out, a of x is absorbed, b of y is

abbrev pub behind_give : Setting → TwoState → ℕ → Form
behind_give y s c = cancel_form (given_form (transformation y.output c) s.form)

abbrev pub behind_x : Setting → TwoState → ℕ → Form
behind_x y s a = cancel_form (into_x s.form (transformation y.input a))

abbrev pub behind_y : Setting → TwoState → ℕ → Form
behind_y y s b = cancel_form (into_y s.form (transformation y.input b))

abbrev pub InRange : Form → Type 0
InRange m = WithinForm 1000000000 m

-- ---- R holds of the state and of what was done, wherever a step from s goes on

pub record Onward (y : Setting) (s : TwoState) (R : TwoState → Deed → Type 0) : Type 0 where
  pub load_x_lem : (a : ℕ) → s.x ≡ None → a < y.input.count → R (loaded_x s a) (took_x a)
  pub load_y_lem : (b : ℕ) → s.y ≡ None → b < y.input.count → R (loaded_y s b) (took_y b)
  pub give : (a b c : ℕ) → s.x ≡ Some a → s.y ≡ Some b → choice y s a b ≡ some c → InRange (behind_give y s c) → R (given_two s (behind_give y s c)) (gave c)
  pub absorb_x : (a : ℕ) → s.x ≡ Some a → InRange (behind_x y s a) → R (absorbed_x s (behind_x y s a)) nothing
  pub absorb_y : (b : ℕ) → s.y ≡ Some b → InRange (behind_y y s b) → R (absorbed_y s (behind_y y s b)) nothing

module _ (y : Setting) (s : TwoState) (R : TwoState → Deed → Type 0) (each : Onward y s R) where
  each_ranged : (a : Deed) (t : TwoState) → (InRange t.form → R t a) → Each R a (ranged t)
  each_ranged a t h = each_test R a (within_form? 1000000000 t.form) t RangeLeft (λ w. h ((within_form_says 1000000000 t.form).0 w))

  by_turn : (a b : ℕ) → s.x ≡ Some a → s.y ≡ Some b → (w : Turn) → Each R nothing (absorb y.input s a b w)
  by_turn a b e f OfX = each_ranged nothing (absorbed_x s (behind_x y s a)) (each.absorb_x a e)
  by_turn a b e f OfY = each_ranged nothing (absorbed_y s (behind_y y s b)) (each.absorb_y b f)

  by_choice : (a b : ℕ) → s.x ≡ Some a → s.y ≡ Some b → (o : Option ℕ) → choice y s a b ≡ o → Each R nothing (both_held y s a b o)
  unfolding Each
  by_choice a b e f (some c) k = each_ranged (gave c) (given_two s (behind_give y s c)) (each.give a b c e f k)
  by_choice a b e f none k = by_turn a b e f s.turn

  by_held : (h k : Held) → s.x ≡ h → s.y ≡ k → Each R nothing (plan_by y s h k)
  unfolding Each
  by_held None k e f = λ a. each_test R (took_x a) (ltb a y.input.count) (loaded_x s a) NotADigit (λ w. each.load_x_lem a e (ltb-true a y.input.count w))
  by_held (Some a) None e f = λ b. each_test R (took_y b) (ltb b y.input.count) (loaded_y s b) NotADigit (λ w. each.load_y_lem b f (ltb-true b y.input.count w))
  by_held (Some a) (Some b) e f = by_choice a b e f (choice y s a b) refl

  pub each_way : Each R nothing (two_plan y s)
  each_way = by_held s.x s.y refl refl

  pub step_goes : (r : Supply) → Going R ((pairs y).step s r)
  step_goes r = follow_each R (two_plan y s) each_way r

-- ---- why a step stops: what holds of the four ends holds of every stop

module _ (R : Stop → Type 0) (used : R InputUsed) (no_digit : R NotADigit) (no_room : R NoRoom) (left : R RangeLeft) (y : Setting) (s : TwoState) where
  stop_ranged : (t : TwoState) → EachStop R (ranged t)
  stop_ranged t = stop_test R (within_form? 1000000000 t.form) t RangeLeft left

  stop_turn : (a b : ℕ) (w : Turn) → EachStop R (absorb y.input s a b w)
  stop_turn a b OfX = stop_ranged (absorbed_x s (behind_x y s a))
  stop_turn a b OfY = stop_ranged (absorbed_y s (behind_y y s b))

  stop_choice : (a b : ℕ) (o : Option ℕ) → EachStop R (both_held y s a b o)
  unfolding EachStop
  stop_choice a b (some c) = (no_room, stop_ranged (given_two s (behind_give y s c)))
  stop_choice a b none = stop_turn a b s.turn

  stop_held : (h k : Held) → EachStop R (plan_by y s h k)
  unfolding EachStop
  stop_held None k = (used, λ a. stop_test R (ltb a y.input.count) (loaded_x s a) NotADigit no_digit)
  stop_held (Some a) None = (used, λ b. stop_test R (ltb b y.input.count) (loaded_y s b) NotADigit no_digit)
  stop_held (Some a) (Some b) = stop_choice a b (choice y s a b)

  pub step_halts : (r : Supply) → Halting R ((pairs y).step s r)
  step_halts r = follow_halts R (two_plan y s) (stop_held s.x s.y) r

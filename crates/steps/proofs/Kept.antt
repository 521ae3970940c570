-- Every step keeps the rules for a state, every digit that it gives out is one of the output system's, and every divisor that it lists is in its range: this holds wherever
-- the plan goes on. Loading keeps X and holds a byte that was tested; giving and absorbing multiply X with a digit's matrix, whose determinant is above 0 (so the product's is),
-- and cancel, after which the greatest common divisor is 1 and the sign of the determinant is the same (`cancel_says`); the range was tested.
use Rattle.whole.proofs.Laws.{◌≡◌, refl, true, List, [], ◌∷◌, ◌++◌, Option, none, some, ℕ, zero, suc, ◌<◌, arith, ltb-true, ltb, length, get_or, gcd4, within_says}
use Rattle.plane.proofs.Laws.{image_of, cancel_of, DetAbove, det_above_multiply, det_above_pseudoinverse}
use Rattle.inclusion.proofs.Laws.{included?}
use Rattle.digits.proofs.Laws.{interval, transformation}
use Rattle.admission.proofs.Laws.{Digits}
use Rattle.fitting.proofs.Laws.{fitting_exactly}
use Rattle.runs.proofs.Laws.{Supply, Deed, nothing, and_then, Going, Each, took_x, gave, gave_by, listed, follow_each, each_test}
use Rattle.states.proofs.Laws.{cancelled_rules, Held, None, Some, State, NotADigit, loaded, given, absorbed, HeldDigit, StateRules}
use Rattle.steps.specs.Step.{Setting, DivisorNumber, chosen, given_matrix, absorbed_matrix, held_plan, plan_by, plan, plain}
use Rattle.steps.proofs.Cancelled.{each_cancelled}
use Rattle.steps.proofs.Factors.{right_factors, left_factors, divisor_number}

-- the digit that is chosen is one of the output system's, and it fits
pub chosen_below : (y : Setting) (s : State) (h b : ℕ) → chosen y s h ≡ some b → b < y.output.count
chosen_below y s h b e = ((fitting_exactly y.output _ (some b)).0 e).0

pub chosen_fits : (y : Setting) (s : State) (h b : ℕ) → chosen y s h ≡ some b → included? (image_of s.matrix (interval y.input h)) (interval y.output b) ≡ true
chosen_fits y s h b e = ((fitting_exactly y.output _ (some b)).0 e).1

-- ---- digits that are written, and divisors that are listed

-- each number of a list
abbrev pub Every : (ℕ → Type 0) → List ℕ → Type 0
Every P [] = Unit {0}
Every P (d ∷ ds) = P d × Every P ds

pub every_both : (P : ℕ → Type 0) (a b : List ℕ) → Every P a → Every P b → Every P (a ++ b)
every_both P [] b p q = q
every_both P (d ∷ a) b p q = (p.0, every_both P a b p.1 q)

pub every_at : (P : ℕ → Type 0) (ds : List ℕ) (p : ℕ) → Every P ds → p < length ds → P (get_or ds p 0)
every_at P [] p b h = absurd (omega arith)
every_at P (d ∷ ds) zero b h = b.0
every_at P (d ∷ ds) (suc p) b h = every_at P ds p b.1 (omega arith)

-- digits of a system that has n
abbrev pub Below : ℕ → List ℕ → Type 0
Below n ds = Every (λ d. d < n) ds

-- ---- wherever the plan goes on

-- the digits written and the divisors listed so far, and the state
pub record Kept (y : Setting) (d : Deed) (t : State) : Type 0 where
  pub digits : Below y.output.count d.digits
  pub divisors : Every DivisorNumber d.divisors
  pub state : StateRules y.input.count t

module _ (y : Setting) (inputs : Digits y.input) (outputs : Digits y.output) where
  abbrev KeepsBehind : Deed → State → Deed → Type 0
  KeepsBehind a t d = Kept y (and_then a d) t

  -- what one step adds to what was done
  adds : (a d : Deed) {s t : State} → Kept y a s → Below y.output.count d.digits → Every DivisorNumber d.divisors → StateRules y.input.count t → Kept y (and_then a d) t
  adds a d k digits divisors state = record {
    digits = every_both (λ b. b < y.output.count) a.digits d.digits k.digits digits;
    divisors = every_both DivisorNumber a.divisors d.divisors k.divisors divisors;
    state = state;
  }

  held_keeps : (a : Deed) (s : State) (h : ℕ) (o : Option ℕ) → h < y.input.count → chosen y s h ≡ o → Kept y a s → Each (KeepsBehind a) nothing (held_plan y s h o)
  unfolding Each
  held_keeps a s h (some b) below e k =
      let m = given_matrix y.output s b in
      let t = given s (cancel_of m) in
      let digit = chosen_below y s h b e in
      let x : DetAbove s.matrix = record { above = k.state.above } in
      let g : DetAbove (transformation y.output b) = record { above = (outputs b digit).above } in
      each_cancelled (given s) m (KeepsBehind a) (gave b) (λ w. adds a (gave_by b (gcd4 m)) k (digit, tt)
      (divisor_number (outputs b digit).in_range.numbers_f (left_factors k.state.in_range k.state.cancelled (outputs b digit).in_range.numbers_f g.above), tt)
      (cancelled_rules y.input.count t m refl (det_above_multiply (det_above_pseudoinverse g) x) (within_says 1000000000 t.matrix w) k.state.held_digit))
  held_keeps a s h none below e k =
      let m = absorbed_matrix y.input s h in
      let t = absorbed s (cancel_of m) in
      let x : DetAbove s.matrix = record { above = k.state.above } in
      let f : DetAbove (transformation y.input h) = record { above = (inputs h below).above } in
      each_cancelled (absorbed s) m (KeepsBehind a) nothing (λ w. adds a (listed (gcd4 m)) k tt
      (divisor_number (inputs h below).in_range.numbers_f (right_factors k.state.in_range k.state.cancelled (inputs h below).in_range.numbers_f f.above), tt)
      (cancelled_rules y.input.count t m refl (det_above_multiply x f) (within_says 1000000000 t.matrix w) tt))

  plan_keeps : (a : Deed) (s : State) (h : Held) → HeldDigit y.input.count h → Kept y a s → Each (KeepsBehind a) nothing (plan_by y s h)
  unfolding Each
  plan_keeps a s None d k = λ b. each_test (KeepsBehind a) (took_x b) (ltb b y.input.count) (loaded s b) NotADigit (λ w. adds a (took_x b) k tt tt
      (record { cancelled = k.state.cancelled; above = k.state.above; in_range = k.state.in_range; held_digit = ltb-true b y.input.count w }))
  plan_keeps a s (Some h) d k = held_keeps a s h (chosen y s h) d refl k

  pub step_keeps : (a : Deed) (s : State) (r : Supply) → Kept y a s → Going (λ t d. Kept y (and_then a d) t) ((plain y).step s r)
  step_keeps a s r k = follow_each (λ t d. Kept y (and_then a d) t) (plan y s) (plan_keeps a s s.held k.state.held_digit k) r

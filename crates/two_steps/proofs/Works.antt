-- What the functions of a step may rely on: a held digit, and the one that was found, can be worked with; the numbers of a step are in their range, and what is cancelled divides
-- the determinant of its digit.
use Rattle.whole.proofs.Laws.{arith, ◌≡◌, sym, ap, ap₂, subst, ◌∙◌, List, Option, none, some, ℕ, ◌<◌, ℤ, pos, nat_abs, ◌<ℤ◌, Within}
use Rattle.plane.proofs.Laws.{determinant_of, pseudoinverse_within, size_above}
use Rattle.bilinear.proofs.Laws.{Form, into_x, into_y, given_form, into_x_divides, into_y_divides, given_divides, into_x_within, into_y_within, times_within}
use Rattle.digits.proofs.Laws.{System, transformation}
use Rattle.fitting.proofs.Laws.{Searchable}
use Rattle.steps.proofs.Laws.{Setting, Usable}
use Rattle.two_states.proofs.Laws.{Turn, OfX, OfY, TwoState, TwoRules}
use Rattle.two_steps.specs.TwoStep.{choice}
use Rattle.two_steps.specs.Made.{WorksWith, WorksWhere, Cancellable, product, absorbed_product, product_by}
use Rattle.two_steps.proofs.Ways.{chosen_below}

-- a digit of a system, with a state that keeps its rules
pub works : {y : System} {k : ℕ} {s : TwoState} (a : ℕ) → Usable y → TwoRules k s → a < y.count → WorksWith y s a
works a usable rules below = record {
  there = omega (arith, usable.few);
  digit = usable.digits a below;
  cancelled = rules.cancelled;
  in_range = rules.in_range;
}

-- the digit that was found, if one was, where one of x can be worked with
pub works_where : (y : Setting) {s : TwoState} {a : ℕ} (b : ℕ) → WorksWith y.input s a → Usable y.output → (fit : Option ℕ) → choice y s a b ≡ fit → WorksWhere y.output s fit
works_where y b w usable none e = tt
works_where y {s} {a} b w usable (some c) e =
    let below = chosen_below y s a b c e in
    record { there = omega (arith, below, usable.few); digit = usable.digits c below; cancelled = w.cancelled; in_range = w.in_range }

-- its intervals can be searched
pub searchable : {s : System} → Usable s → Searchable s
searchable u = record { small = λ a h. (u.digits a h).in_range.numbers_w; intervals = λ a h. (u.digits a h).interval }

-- ---- a transformation f that was read, of a digit that can be worked with

module _ {y : System} {s : TwoState} {a : ℕ} {f : List ℤ} (w : WorksWith y s a) (e : f ≡ transformation y a) where
  pub numbers_small : Within 100 f
  numbers_small = subst (Within 100) (sym e) w.digit.in_range.numbers_f

  pub determinant_above : pos 0 <ℤ determinant_of f
  determinant_above = subst (λ (f : List ℤ). pos 0 <ℤ determinant_of f) (sym e) w.digit.above

-- eight numbers and a determinant that were made with it
pub made_product : {m n : Form} {f g : List ℤ} {d : ℕ} → m ≡ n → d ≡ nat_abs (determinant_of f) → f ≡ g → record { form = m; determinant = d } ≡ product n g
made_product e d g = ap₂ (λ (m : Form) (d : ℕ). record { form = m; determinant = d }) e (d ∙ ap (λ (f : List ℤ). nat_abs (determinant_of f)) g)

-- ---- the eight numbers of a step can be cancelled by the determinant of its digit

module _ {y : System} {s : TwoState} {a : ℕ} (w : WorksWith y s a) where
  abbrev f : List ℤ
  f = transformation y a

  cancellable_x : Cancellable (product (into_x s.form f) f)
  cancellable_x = let d = w.digit in (into_x_within d.in_range.numbers_f w.in_range, size_above d.above, into_x_divides s.form f w.cancelled d.above)

  cancellable_y : Cancellable (product (into_y s.form f) f)
  cancellable_y = let d = w.digit in (into_y_within d.in_range.numbers_f w.in_range, size_above d.above, into_y_divides s.form f w.cancelled d.above)

  cancellable_given : Cancellable (product (given_form f s.form) f)
  cancellable_given =
      let d = w.digit in
      (times_within (pseudoinverse_within d.in_range.numbers_f) w.in_range, size_above d.above, given_divides f s.form w.cancelled d.above)

module _ (y : Setting) {s : TwoState} {a b : ℕ} (w : WorksWith y.input s a) (v : WorksWith y.input s b) where
  by_turn : (t : Turn) → Cancellable (absorbed_product y.input s a b t)
  by_turn OfX = cancellable_x w
  by_turn OfY = cancellable_y v

  pub cancellable : (fit : Option ℕ) → WorksWhere y.output s fit → Cancellable (product_by y s a b fit)
  cancellable none g = by_turn s.turn
  cancellable (some c) g = cancellable_given g

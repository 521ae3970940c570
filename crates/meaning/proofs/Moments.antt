-- What holds from any state of a session to any later one (`Onward`, specs/Moments.antt), by induction over the steps in between: what stands in `Meant`, of which
-- demand 3's sentences are read off (Sessions). From the opened state on, this is every moment of a session.
-- Write C for the matrix of the first state, X for that of the last, P for the product of the digits given out in between and Q for that of the digits absorbed.
--   here:      X is C, nothing is taken and nothing given out: P and Q are 1, and the scale too.
--   loading:   X stays. The byte is held, not absorbed, and what is asked of the numbers only gets stronger: the held digit is asked for besides.
--   giving b:  k·(P·X) = d·(C·Q) goes on by `gave_scale`. For the digits before b nothing changes, since G_b(X'(t)) is X(t) again, as a point. For b itself: t lies in
--              closed W_held, so X(t) lies in closed X·W_held, and so in closed U_b, which includes it. This is why a digit that was given out never has to be recalled.
--   absorbing: the equation goes on by `absorbed_scale`; and what is claimed at t is what was claimed before at F_h(t), since X'(t) is X(F_h(t)), as a point.
use Rattle.whole.proofs.Laws.{◌≡◌, refl, sym, ◌∙◌, ap, subst, List, [], ◌∷◌, ◌++◌, append-nil, append_assoc, Option, none, some, ℕ, ◌*◌, ◌<◌, arith, ltb-true, ltb, length, ℤ, pos, ◌<ℤ◌, gcd4, ps_mul, up<}
use Rattle.plane.proofs.Laws.{Pair, apply, multiply_of, cancel_of, Closed, scale_of, DetAbove, multiply_identity_left, multiply_identity_right, det_above_multiply, det_above_pseudoinverse, cancel_det_above, divisor_above, interval_moves, closed_moves, closed_same}
use Rattle.inclusion.proofs.Laws.{included_says, says_included, closed_included}
use Rattle.digits.proofs.Laws.{transformation, interval}
use Rattle.admission.proofs.Laws.{Digits}
use Rattle.runs.proofs.Laws.{Deed, nothing, Going, Plan, Each, took_x, gave, and_then, follow_each, each_test}
use Rattle.states.proofs.Laws.{Held, None, Some, State, Stop, NotADigit, HeldDigit, opened, loaded, given, absorbed}
use Rattle.steps.proofs.Laws.{Setting, each_cancelled, chosen, given_matrix, absorbed_matrix, plan_by, plan, chosen_below, chosen_fits}
use Rattle.opening.proofs.Laws.{Opens, Start, open_of, opens, hands_out}
use native.Mathlib.Nat as N
use Rattle.meaning.specs.Names.{product_of, determinants_of, times_all, EachInItsInterval, HeldInItsInterval, held_digits}
use Rattle.meaning.specs.Moments.{Fits, Chooses, FreeLine, loading, holding, Onward, here, stepped, Moment}
use Rattle.meaning.proofs.Products.{times_append, product_append, determinants_append, each_append, each_same}
use Rattle.meaning.proofs.OneStep.{gave_scale, absorbed_scale, cancelled_same, gave_same}

-- what a state of a session is: it keeps intervals, a held digit is one of the input system's, and its matrix is four numbers
pub record Sound (y : Setting) (s : State) : Type 0 where
  pub above : DetAbove s.matrix
  pub held_digit : HeldDigit y.input.count s.held
  pub four : length s.matrix ≡ 4

-- the equation, with k the product of the divisors so far
abbrev pub Equation : Setting → List ℤ → ℕ → List ℕ → List ℕ → State → Type 0
Equation y c k absorbed out s =
    scale_of (pos k) (multiply_of (product_of y.output out) s.matrix) ≡ scale_of (determinants_of y.output out) (multiply_of c (product_of y.input absorbed))

-- from the state o to the state s
pub record Meant (y : Setting) (o : State) (k : ℕ) (taken out : List ℕ) (s : State) : Type 0 where
  pub absorbed : List ℕ
  pub with_the_held : absorbed ++ held_digits s.held ≡ held_digits o.held ++ taken
  pub sound : Sound y s
  pub scale_above : 0 < k
  pub outputs_above : pos 0 <ℤ determinants_of y.output out
  pub scale : Equation y o.matrix k absorbed out s
  pub intervals : (t : Pair) → EachInItsInterval y.input absorbed t → HeldInItsInterval y.input s.held t → EachInItsInterval y.output out (apply s.matrix t)

meant_as : {y : Setting} {o : State} {k k' : ℕ} {taken taken' out out' : List ℕ} {s : State} → k ≡ k' → taken ≡ taken' → out ≡ out' → Meant y o k taken out s → Meant y o k' taken' out' s
meant_as {y} {o} {k} {k'} {taken} {taken'} {out} {out'} {s} e f g h =
    subst (λ (n : ℕ). Meant y o n taken' out' s) e (subst (λ (l : List ℕ). Meant y o k l out' s) f (subst (λ (l : List ℕ). Meant y o k taken l s) g h))

-- ---- no step yet

here_means : {y : Setting} {s : State} → Sound y s → Meant y s 1 [] [] s
unfolding product_of determinants_of EachInItsInterval
here_means {y} {s} sound = record {
  absorbed = [];
  with_the_held = sym (append-nil (held_digits s.held));
  sound = sound;
  scale_above = omega arith;
  outputs_above = up< (omega arith);
  scale = ap (scale_of (pos 1)) (multiply_identity_left s.matrix ∙ sym (multiply_identity_right s.matrix));
  intervals = λ t each held. tt;
}

-- "determinant above 0", of a matrix that opens
pub job_above : {m : List ℤ} → (open_of m).opening ≡ Opens → DetAbove m
job_above {m} e = record { above = ((opens m Opens).0 e).1 }

-- the opened state
pub opened_sound : (y : Setting) (m : List ℤ) → (open_of m).opening ≡ Opens → Sound y (open_of m).state
unfolding cancel_of
opened_sound y m e = subst (λ (r : Start). Sound y r.state) (sym (hands_out m Opens e))
    (record { above = cancel_det_above (job_above e); held_digit = tt; four = refl })

-- ---- each kind of step

module _ {y : Setting} {o : State} (inputs : Digits y.input) (outputs : Digits y.output) {k : ℕ} {taken out : List ℕ} {s : State} (h : Meant y o k taken out s) where
  loads : s.held ≡ None → (a : ℕ) → a < y.input.count → Meant y o k (taken ++ a ∷ []) out (loaded s a)
  loads free a below = record {
    absorbed = h.absorbed;
    with_the_held = ap (λ (l : List ℕ). l ++ a ∷ []) (sym (append-nil h.absorbed) ∙ ap (λ (x : Held). h.absorbed ++ held_digits x) (sym free) ∙ h.with_the_held) ∙
        append_assoc (held_digits o.held) taken (a ∷ []);
    sound = record { above = h.sound.above; held_digit = below; four = h.sound.four };
    scale_above = h.scale_above;
    outputs_above = h.outputs_above;
    scale = h.scale;
    intervals = λ t each held. h.intervals t each (subst (λ (x : Held). HeldInItsInterval y.input x t) (sym free) tt);
  }

  module _ (a : ℕ) (holds : s.held ≡ Some a) where
    held_below : a < y.input.count
    held_below = subst (HeldDigit y.input.count) holds h.sound.held_digit

    input_above : DetAbove (transformation y.input a)
    input_above = record { above = (inputs a held_below).above }

    -- X(t) lies in the closed interval of a digit that fits
    closed_fits : (b : ℕ) → Fits y s a b → (t : Pair) → Closed (interval y.input a) t → Closed (interval y.output b) (apply s.matrix t)
    closed_fits b fits t c =
        let image = interval_moves h.sound.above (inputs a held_below).interval in
        let into = (outputs b fits.digit).interval in
        closed_included image into (says_included image into fits.includes) (apply s.matrix t) (closed_moves h.sound.above c)

    gives : (b : ℕ) → Fits y s a b → let n = given_matrix y.output s b in Meant y o (k * gcd4 n) taken (out ++ b ∷ []) (given s (cancel_of n))
    unfolding cancel_of
    gives b fits =
        let g = transformation y.output b in
        let n = given_matrix y.output s b in
        let above : DetAbove g = record { above = (outputs b fits.digit).above } in
        let new = det_above_multiply (det_above_pseudoinverse above) h.sound.above in
        record {
          absorbed = h.absorbed;
          with_the_held = h.with_the_held;
          sound = record { above = cancel_det_above new; held_digit = h.sound.held_digit; four = refl };
          scale_above = N.mul-pos h.scale_above (divisor_above new);
          outputs_above = rw (determinants_append y.output out b) (ps_mul h.outputs_above above.above);
          scale = rw (product_append y.output out b, determinants_append y.output out b)
              (gave_scale k (determinants_of y.output out) (product_of y.output out) s.matrix (multiply_of o.matrix (product_of y.input h.absorbed)) g h.scale);
          intervals = λ t each held.
              let same = gave_same g s.matrix t above h.sound.above in
              (each_append y.output out b (apply (cancel_of n) t)).1
              (each_same y.output out same (h.intervals t each held), closed_same same (closed_fits b fits t (subst (λ (x : Held). HeldInItsInterval y.input x t) holds held)));
        }

    absorbs : let n = absorbed_matrix y.input s a in Meant y o (k * gcd4 n) taken out (absorbed s (cancel_of n))
    unfolding cancel_of
    absorbs =
        let f = transformation y.input a in
        let new = det_above_multiply h.sound.above input_above in
        record {
          absorbed = h.absorbed ++ a ∷ [];
          with_the_held = append-nil (h.absorbed ++ a ∷ []) ∙ ap (λ (x : Held). h.absorbed ++ held_digits x) (sym holds) ∙ h.with_the_held;
          sound = record { above = cancel_det_above new; held_digit = tt; four = refl };
          scale_above = N.mul-pos h.scale_above (divisor_above new);
          outputs_above = h.outputs_above;
          scale = rw (product_append y.input h.absorbed a)
              (absorbed_scale k (determinants_of y.output out) (product_of y.output out) s.matrix o.matrix (product_of y.input h.absorbed) f h.scale);
          intervals = λ t each held.
              let before = (each_append y.input h.absorbed a t).0 each in
              each_same y.output out (cancelled_same s.matrix f t h.sound.above input_above)
              (h.intervals (apply f t) before.0 (subst (λ (x : Held). HeldInItsInterval y.input x (apply f t)) (sym holds) before.1));
        }

-- what was done, from the state o to the state s
abbrev pub MeantBy : Setting → State → Deed → State → Type 0
MeantBy y o done s = Meant y o (times_all done.divisors) done.x done.digits s

-- wherever a line goes on
module _ {y : Setting} {o : State} (inputs : Digits y.input) (outputs : Digits y.output) (done : Deed) {s : State} (h : MeantBy y o done s) where
  abbrev After : State → Deed → Type 0
  After t d = MeantBy y o (and_then done d) t

  line_means : {p : Plan State Stop} → FreeLine y s p → Each After nothing p
  unfolding Each
  line_means (loading free) = λ a. each_test After (took_x a) (ltb a y.input.count) (loaded s a) NotADigit
      (λ w. meant_as (ap times_all (sym (append-nil done.divisors))) refl (sym (append-nil done.digits)) (loads inputs outputs h free a (ltb-true a y.input.count w)))
  line_means (holding a holds (some b) fits) =
      let m = given_matrix y.output s b in
      each_cancelled (given s) m After (gave b) (λ w. meant_as (sym (times_append done.divisors (gcd4 m))) (sym (append-nil done.x)) refl (gives inputs outputs h a holds b fits))
  line_means (holding a holds none fits) =
      let m = absorbed_matrix y.input s a in
      each_cancelled (absorbed s) m After nothing
      (λ w. meant_as (sym (times_append done.divisors (gcd4 m))) (sym (append-nil done.x)) (sym (append-nil done.digits)) (absorbs inputs outputs h a holds))

pub onward_means : {y : Setting} {o : State} → Digits y.input → Digits y.output → Sound y o → {done : Deed} {s : State} → Onward y o done s → MeantBy y o done s
unfolding times_all
onward_means inputs outputs sound here = here_means sound
onward_means inputs outputs sound (stepped {done} {p = p} steps line supply e) =
    let h = onward_means inputs outputs sound steps in
    subst (Going (After inputs outputs done h)) e (follow_each (After inputs outputs done h) p (line_means inputs outputs done h line) supply)

-- every moment: the opened state is M cancelled, with nothing held
pub moment_means : {y : Setting} {m : List ℤ} → Digits y.input → Digits y.output → {done : Deed} {s : State} → Moment y m done s → MeantBy y (opened (cancel_of m)) done s
moment_means {y} {m} inputs outputs {done} {s} moment =
    subst (λ (r : Start). MeantBy y r.state done s) (hands_out m Opens moment.opens) (onward_means inputs outputs (opened_sound y m moment.opens) moment.steps)

-- ---- the plan of a run is one of these lines: the digit that it chooses fits. The test of inclusion is traded for the sentence that it decides, for which both
-- intervals have to be intervals.

module _ {y : Setting} (inputs : Digits y.input) (outputs : Digits y.output) {s : State} (sound : Sound y s) where
  choice_is : (a : ℕ) → s.held ≡ Some a → (o : Option ℕ) → chosen y s a ≡ o → Chooses y s a o
  choice_is a holds none e = tt
  choice_is a holds (some b) e =
      let below = chosen_below y s a b e in
      let held = subst (HeldDigit y.input.count) holds sound.held_digit in
      record { digit = below; includes = included_says (interval_moves sound.above (inputs a held).interval) (outputs b below).interval (chosen_fits y s a b e) }

  pub plan_is : FreeLine y s (plan y s)
  plan_is = by s.held refl
    where
      by : (x : Held) → s.held ≡ x → FreeLine y s (plan_by y s x)
      by None e = loading e
      by (Some a) e = holding a e (chosen y s a) (choice_is a e (chosen y s a) refl)

-- What holds from the opened state of a session over two words on, by induction over the steps of its runs: what stands in `TwoMeant`, of which demand 3's sentences are read
-- off (TwoClaims).
-- Write Op for the operation, X for the state's eight numbers, P for the product of the digits given out, Q_x and Q_y for those of the digits absorbed of each word.
--   opened:     X is Op, nothing is taken and nothing given out: P, Q_x and Q_y are 1.
--   loading:    X stays. The byte is held, not absorbed, and what is asked of the numbers only gets stronger: the held digit is asked for besides.
--   giving c:   P·X is Op(Q_x x, Q_y y) up to a positive scale, and stays it (`gave_product`). For the digits before c nothing changes, since G_c(X'(r, t)) is X(r, t) again, as
--               a point. For c itself: r and t lie in the closed intervals of the held digits, so X(r, t) lies in closed U_c by the test (`given_says`).
--   absorbing:  the equation goes on by `absorbed_x_product` or `absorbed_y_product`; and what is claimed at r and t is what was claimed before at F_a(r) and t, or at r and
--               F_a(t), since X' of the two is X of those, as a point.
use Rattle.whole.proofs.Laws.{◌≡◌, refl, sym, ◌∙◌, ap, subst, not, List, [], ◌∷◌, ◌++◌, append-nil, some, ℕ, both_true}
use Rattle.plane.proofs.Laws.{Pair, apply, Closed, closed_same}
use Rattle.bilinear.proofs.Laws.{Form, apply_two, into_x, into_y, times_form, into_x_above, into_y_above, given_above}
use Rattle.digits.proofs.Laws.{transformation, interval}
use Rattle.admission.proofs.Laws.{Digits}
use Rattle.giving.proofs.Laws.{images_of, all_coefficients, one_sided?, some_nought?, may_give?, given_says, giving_exactly}
use Rattle.runs.proofs.Laws.{Supply, Deed, and_then, Going}
use Rattle.states.proofs.Laws.{Held, None, Some}
use Rattle.steps.proofs.Laws.{Setting}
use Rattle.two_states.proofs.Laws.{TwoState, TwoRules, loaded_x, loaded_y, given_two, absorbed_x, absorbed_y}
use Rattle.two_steps.proofs.Laws.{choice, pairs, behind_give, behind_x, behind_y, chosen_below, held_below, step_goes}
use Rattle.meaning.proofs.Laws.{product_of, EachInItsInterval, HeldInItsInterval, held_digits, product_append, each_append, each_same}
use Rattle.two_meaning.specs.TwoSession.{UpToScaleForm}
use Rattle.two_meaning.proofs.UpToScale.{up_cancelled, up_given, gave_product, absorbed_x_product, absorbed_y_product, gave_same, absorbed_x_same, absorbed_y_same}

-- what holds, where these digits are absorbed of each word, these are given out, and this is the state
abbrev pub TwoProduct : Setting → Form → List ℕ → List ℕ → List ℕ → TwoState → Type 0
TwoProduct y op ax ay out s = UpToScaleForm (times_form (product_of y.output out) s.form) (into_y (into_x op (product_of y.input ax)) (product_of y.input ay))

abbrev pub TwoIntervals : Setting → List ℕ → List ℕ → List ℕ → TwoState → Type 0
TwoIntervals y ax ay out s = (r t : Pair) → EachInItsInterval y.input ax r → HeldInItsInterval y.input s.x r →
    EachInItsInterval y.input ay t → HeldInItsInterval y.input s.y t → EachInItsInterval y.output out (apply_two s.form r t)

-- from the opened state to the state s, by bytes taken of each word and digits given out
pub record TwoMeant (y : Setting) (op : Form) (xs ys out : List ℕ) (s : TwoState) : Type 0 where
  pub absorbed_x_lem : List ℕ
  pub absorbed_y_lem : List ℕ
  pub with_held_x : absorbed_x_lem ++ held_digits s.x ≡ xs
  pub with_held_y : absorbed_y_lem ++ held_digits s.y ≡ ys
  pub product : TwoProduct y op absorbed_x_lem absorbed_y_lem out s
  pub intervals : TwoIntervals y absorbed_x_lem absorbed_y_lem out s

abbrev pub TwoMeantBy : Setting → Form → Deed → TwoState → Type 0
TwoMeantBy y op done s = TwoMeant y op done.x done.y done.digits s

meant_as : {y : Setting} {op : Form} {xs xs' ys ys' out out' : List ℕ} {s : TwoState} → xs ≡ xs' → ys ≡ ys' → out ≡ out' → TwoMeant y op xs ys out s → TwoMeant y op xs' ys' out' s
meant_as {y} {op} {xs} {xs'} {ys} {ys'} {out} {out'} {s} e f g h =
    subst (λ (l : List ℕ). TwoMeant y op l ys' out' s) e (subst (λ (l : List ℕ). TwoMeant y op xs l out' s) f (subst (λ (l : List ℕ). TwoMeant y op xs ys l s) g h))

-- ---- the bytes that went in, of one word

-- the byte a is loaded behind the absorbed digits, of a word of which nothing was held
loaded_behind : (ax : List ℕ) {h : Held} {xs : List ℕ} (a : ℕ) → h ≡ None → ax ++ held_digits h ≡ xs → ax ++ a ∷ [] ≡ xs ++ a ∷ []
loaded_behind ax a free e = ap (λ (l : List ℕ). l ++ a ∷ []) (sym (append-nil ax) ∙ ap (λ (h : Held). ax ++ held_digits h) (sym free) ∙ e)

-- the held digit a becomes the last absorbed one
absorbed_last : (ax : List ℕ) {h : Held} {xs : List ℕ} (a : ℕ) → h ≡ Some a → ax ++ held_digits h ≡ xs → (ax ++ a ∷ []) ++ [] ≡ xs
absorbed_last ax a holds e = append-nil (ax ++ a ∷ []) ∙ ap (λ (h : Held). ax ++ held_digits h) (sym holds) ∙ e

-- ---- each kind of step

module _ {y : Setting} {op : Form} (inputs : Digits y.input) (outputs : Digits y.output) {s : TwoState} (rules : TwoRules y.input.count s) where
  module _ {xs ys out : List ℕ} (h : TwoMeant y op xs ys out s) where
    loads_x : (a : ℕ) → s.x ≡ None → TwoMeant y op (xs ++ a ∷ []) ys out (loaded_x s a)
    loads_x a free = record {
      absorbed_x_lem = h.absorbed_x_lem;
      absorbed_y_lem = h.absorbed_y_lem;
      with_held_x = loaded_behind h.absorbed_x_lem a free h.with_held_x;
      with_held_y = h.with_held_y;
      product = h.product;
      intervals = λ r t x hx. h.intervals r t x (subst (λ (d : Held). HeldInItsInterval y.input d r) (sym free) tt);
    }

    loads_y : (b : ℕ) → s.y ≡ None → TwoMeant y op xs (ys ++ b ∷ []) out (loaded_y s b)
    loads_y b free = record {
      absorbed_x_lem = h.absorbed_x_lem;
      absorbed_y_lem = h.absorbed_y_lem;
      with_held_x = h.with_held_x;
      with_held_y = loaded_behind h.absorbed_y_lem b free h.with_held_y;
      product = h.product;
      intervals = λ r t x hx z hy. h.intervals r t x hx z (subst (λ (d : Held). HeldInItsInterval y.input d t) (sym free) tt);
    }

    absorbs_x : (a : ℕ) → s.x ≡ Some a → TwoMeant y op xs ys out (absorbed_x s (behind_x y s a))
    absorbs_x a holds =
        let f = transformation y.input a in
        let back = up_cancelled (into_x s.form f) (into_x_above s.form f rules.cancelled (inputs a (held_below rules.held_x holds)).above) in
        record {
          absorbed_x_lem = h.absorbed_x_lem ++ a ∷ [];
          absorbed_y_lem = h.absorbed_y_lem;
          with_held_x = absorbed_last h.absorbed_x_lem a holds h.with_held_x;
          with_held_y = h.with_held_y;
          product = rw (product_append y.input h.absorbed_x_lem a)
              (absorbed_x_product (product_of y.output out) f (product_of y.input h.absorbed_x_lem) (product_of y.input h.absorbed_y_lem) s.form op back h.product);
          intervals = λ r t x hx z hy.
              let before = (each_append y.input h.absorbed_x_lem a r).0 x in
              each_same y.output out (absorbed_x_same f s.form back r t)
              (h.intervals (apply f r) t before.0 (subst (λ (d : Held). HeldInItsInterval y.input d (apply f r)) (sym holds) before.1) z hy);
        }

    absorbs_y : (b : ℕ) → s.y ≡ Some b → TwoMeant y op xs ys out (absorbed_y s (behind_y y s b))
    absorbs_y b holds =
        let f = transformation y.input b in
        let back = up_cancelled (into_y s.form f) (into_y_above s.form f rules.cancelled (inputs b (held_below rules.held_y holds)).above) in
        record {
          absorbed_x_lem = h.absorbed_x_lem;
          absorbed_y_lem = h.absorbed_y_lem ++ b ∷ [];
          with_held_x = h.with_held_x;
          with_held_y = absorbed_last h.absorbed_y_lem b holds h.with_held_y;
          product = rw (product_append y.input h.absorbed_y_lem b)
              (absorbed_y_product (product_of y.output out) f (product_of y.input h.absorbed_x_lem) (product_of y.input h.absorbed_y_lem) s.form op back h.product);
          intervals = λ r t x hx z hy.
              let before = (each_append y.input h.absorbed_y_lem b t).0 z in
              each_same y.output out (absorbed_y_same f s.form back r t)
              (h.intervals r (apply f t) x hx before.0 (subst (λ (d : Held). HeldInItsInterval y.input d (apply f t)) (sym holds) before.1));
        }

    module _ (a b c : ℕ) (holds-x : s.x ≡ Some a) (holds-y : s.y ≡ Some b) (chosen : choice y s a b ≡ some c) where
      -- X(r, t) lies in the closed interval of the digit that is chosen
      closed_chosen : (r t : Pair) → Closed (interval y.input a) r → Closed (interval y.input b) t → Closed (interval y.output c) (apply_two s.form r t)
      unfolding may_give?
      closed_chosen =
          let v = interval y.input a in
          let w = interval y.input b in
          let u = interval y.output c in
          let images = images_of s.form v w in
          let passes = ((giving_exactly y.output images (some c)).0 chosen).1 in
          given_says s.form v w u (inputs a (held_below rules.held_x holds-x)).interval (inputs b (held_below rules.held_y holds-y)).interval
          (both_true (one_sided? (all_coefficients u images)) (not (some_nought? images)) passes).0

      gives : TwoMeant y op xs ys (out ++ c ∷ []) (given_two s (behind_give y s c))
      gives =
          let g = transformation y.output c in
          let above = (outputs c (chosen_below y s a b c chosen)).above in
          let back = up_given g s.form above (given_above g s.form rules.cancelled above) in
          record {
            absorbed_x_lem = h.absorbed_x_lem;
            absorbed_y_lem = h.absorbed_y_lem;
            with_held_x = h.with_held_x;
            with_held_y = h.with_held_y;
            product = rw (product_append y.output out c)
                (gave_product (product_of y.output out) g s.form (into_y (into_x op (product_of y.input h.absorbed_x_lem)) (product_of y.input h.absorbed_y_lem)) back h.product);
            intervals = λ r t x hx z hy.
                let same = gave_same g s.form back r t in
                let k = subst (λ (d : Held). HeldInItsInterval y.input d r) holds-x hx in
                let l = subst (λ (d : Held). HeldInItsInterval y.input d t) holds-y hy in
                (each_append y.output out c (apply_two (behind_give y s c) r t)).1 (each_same y.output out same (h.intervals r t x hx z hy), closed_same same (closed_chosen r t k l));
          }

  -- wherever the step goes on
  pub step_means : (done : Deed) → TwoMeantBy y op done s → (r : Supply) → Going (λ t d. TwoMeantBy y op (and_then done d) t) ((pairs y).step s r)
  step_means done h =
      let same-x = sym (append-nil done.x) in
      let same-y = sym (append-nil done.y) in
      let same_digits = sym (append-nil done.digits) in
      step_goes y s (λ t d. TwoMeantBy y op (and_then done d) t) (record {
        load_x_lem = λ a free below. meant_as refl same-y same_digits (loads_x h a free);
        load_y_lem = λ b free below. meant_as same-x refl same_digits (loads_y h b free);
        give = λ a b c holds-x holds-y chosen w. meant_as same-x same-y refl (gives h a b c holds-x holds-y chosen);
        absorb_x = λ a holds w. meant_as same-x same-y same_digits (absorbs_x h a holds);
        absorb_y = λ b holds w. meant_as same-x same-y same_digits (absorbs_y h b holds);
      })

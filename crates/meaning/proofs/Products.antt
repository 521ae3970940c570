-- What digits name, when a digit is appended. "If z is named by what follows digit a, F_a(z) is named from a on": with one more digit a at the end, and t behind it,
-- the digits before it name what they would name in front of F_a(t). So a proof that goes along a session, in which each new digit comes last, never has to open the
-- list from its front.
-- The argument: each law is an induction over the digits in front; the equation for the rest is put behind the first digit's transformation. Then two facts that
-- connect the pieces: the product of the transformations, applied to t, is the number named; and the numbers do not see which multiple stands for t ("Multiples are
-- the same point").
use Rattle.whole.proofs.Laws.{◌≡◌, refl, sym, ◌∙◌, ap, subst, List, [], ◌∷◌, ◌++◌, ◌↔◌, ℕ, ◌*◌, ℤ, ◌*ℤ◌, ◌⊗◌, #, ◌≗◌, law}
use Rattle.plane.proofs.Laws.{Pair, SamePoint, apply, determinant_of, multiply_of, Closed, apply_identity, apply_multiply, multiply_assoc, multiply_identity_left, multiply_identity_right, same_moves, closed_same}
use Rattle.digits.proofs.Laws.{System, transformation, interval}
use native.Mathlib.Nat as N
use Rattle.meaning.specs.Names.{named_from, product_of, determinants_of, times_all, EachInItsInterval}

-- one more divisor at the end
pub times_append : (numbers : List ℕ) (g : ℕ) → times_all (numbers ++ g ∷ []) ≡ times_all numbers * g
unfolding times_all
times_append [] g = N.mul_comm g 1
times_append (h ∷ numbers) g = ap (λ (n : ℕ). h * n) (times_append numbers g) ∙ sym (N.mul_assoc h (times_all numbers) g)

module _ (y : System) where
  -- ---- one more digit at the end

  pub product_append : (digits : List ℕ) (a : ℕ) → product_of y (digits ++ a ∷ []) ≡ multiply_of (product_of y digits) (transformation y a)
  unfolding product_of
  product_append [] a = multiply_identity_right (transformation y a) ∙ sym (multiply_identity_left (transformation y a))
  product_append (b ∷ digits) a =
      ap (multiply_of (transformation y b)) (product_append digits a) ∙
      sym (multiply_assoc (transformation y b) (product_of y digits) (transformation y a))

  pub determinants_append : (digits : List ℕ) (a : ℕ) → determinants_of y (digits ++ a ∷ []) ≡ determinants_of y digits *ℤ determinant_of (transformation y a)
  unfolding determinants_of
  determinants_append [] a = law 1 (λ d. d ⊗ # 1 ≗ # 1 ⊗ d) tt (determinant_of (transformation y a))
  determinants_append (b ∷ digits) a =
      ap (λ (z : ℤ). determinant_of (transformation y b) *ℤ z) (determinants_append digits a) ∙
      law 3 (λ c k d. c ⊗ (k ⊗ d) ≗ c ⊗ k ⊗ d) tt (determinant_of (transformation y b)) (determinants_of y digits) (determinant_of (transformation y a))

  pub named_append : (digits : List ℕ) (a : ℕ) (t : Pair) → named_from y (digits ++ a ∷ []) t ≡ named_from y digits (apply (transformation y a) t)
  unfolding named_from
  named_append [] a t = refl
  named_append (b ∷ digits) a t = ap (apply (transformation y b)) (named_append digits a t)

  pub each_append : (digits : List ℕ) (a : ℕ) (t : Pair) →
      EachInItsInterval y (digits ++ a ∷ []) t ↔
      (EachInItsInterval y digits (apply (transformation y a) t) × Closed (interval y a) (apply (transformation y a) t))
  unfolding EachInItsInterval named_from
  each_append [] a t = (λ e. (tt, e.0), λ e. (e.1, tt))
  each_append (b ∷ digits) a t =
      let first = ap (apply (transformation y b)) (named_append digits a t) in
      let rest = each_append digits a t in (
        λ e. ((subst (Closed (interval y b)) first e.0, (rest.0 e.1).0), (rest.0 e.1).1),
        λ e. (subst (Closed (interval y b)) (sym first) e.0.0, rest.1 (e.0.1, e.1)),
      )

  -- ---- the product, applied

  pub product_names : (digits : List ℕ) (t : Pair) → apply (product_of y digits) t ≡ named_from y digits t
  unfolding product_of named_from
  product_names [] t = apply_identity t
  product_names (a ∷ digits) t =
      apply_multiply (transformation y a) (product_of y digits) t ∙ ap (apply (transformation y a)) (product_names digits t)

  -- ---- the same point

  pub named_same : (digits : List ℕ) {t u : Pair} → SamePoint t u → SamePoint (named_from y digits t) (named_from y digits u)
  unfolding named_from
  named_same [] s = s
  named_same (a ∷ digits) s = same_moves (transformation y a) (named_same digits s)

  pub each_same : (digits : List ℕ) {t u : Pair} → SamePoint t u → EachInItsInterval y digits t → EachInItsInterval y digits u
  unfolding EachInItsInterval
  each_same [] s e = tt
  each_same (a ∷ digits) s e = (closed_same (named_same (a ∷ digits) s) e.0, each_same digits s e.1)

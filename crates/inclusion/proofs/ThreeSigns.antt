-- The test of inclusion by the signs of three determinants, as `included` makes it. With p = det(x, u), q = det(x, v), r = det(y, u), s = det(y, v) for the ends of the intervals
-- I = (x, y) and J = (u, v): I is included in J exactly if q < 0 and p ≥ 0 and s ≤ 0, or q > 0 and p ≤ 0 and s ≥ 0 (`Inwards`). The fourth sign is not asked for, since that of
-- p·s − q·r = det(x, y)·det(u, v), a product of two numbers below 0, is known.
-- `by_signs_lem` is for the function: its comparisons, in its order, give document 01's answer. In the numbers of InclusionSigns.antt, p is −b and r is −d.
use Rattle.whole.proofs.Laws.{◌≡◌, ◌∙◌, subst₂, Bool, true, false, cond, List, T, ℤ, pos, neg_ℤ, ◌-ℤ◌, ◌*ℤ◌, le_z, lt_z, ◌≤ℤ◌, ◌<ℤ◌, le_z_yes, lt_z_yes, clash_ℤ, ≤-of-<, ≤-antisym, <-or-≥, product_ps, inl, inr, ◌⊕◌, ◌⊖◌, ◌⊗◌, ⊝◌, #, ◌≦◌, ◌≺◌, ◌≈◌, never, h, num, sq, ◌⊞◌, ◌⊠◌, ◌⊡◌, linear, quadratic, ◌&◌, ◌⇒◌, ◌by◌, ◌from◌, claim, true_lt, false_lt}
use Rattle.plane.proofs.Laws.{det_turned, det, left, right, Interval}
use Rattle.inclusion.specs.Inclusion.{included?}
use Rattle.inclusion.proofs.InclusionSigns.{Kept, Off}
use Rattle.inclusion.proofs.Inclusion.{turn, Answer, holds, fails, answer}
use Rattle.inclusion.proofs.Signs.{agree}

-- ---- in four numbers

data Inwards (p q s : ℤ) : Type 0 where
  one_way : q <ℤ pos 0 → pos 0 ≤ℤ p → s ≤ℤ pos 0 → Inwards p q s
  other_way : pos 0 <ℤ q → p ≤ℤ pos 0 → pos 0 ≤ℤ s → Inwards p q s

module _ (p q r s : ℤ) (t : pos 0 <ℤ (q *ℤ neg_ℤ r -ℤ s *ℤ neg_ℤ p)) where
  -- where I is included, q·r is below 0; then q and r are not 0, and tell the sides of p and s
  kept_inwards : Kept q (neg_ℤ p) s (neg_ℤ r) → Inwards p q s
  kept_inwards k = elim (product_ps q (neg_ℤ r) across) [
    | inl a ↦ other_way a.0
        (claim 2 (λ p q. # 0 ≺ q ⇒ # 0 ≦ (⊝ p) ⊗ q ⇒ p ≦ # 0 from quadratic) tt p q a.0 k.left_in)
        (claim 2 (λ r s. # 0 ≺ ⊝ r ⇒ # 0 ≦ (⊝ r) ⊗ s ⇒ # 0 ≦ s from quadratic) tt r s a.1 k.right_in)
    | inr a ↦ one_way a.0
        (claim 2 (λ p q. q ≺ # 0 ⇒ # 0 ≦ (⊝ p) ⊗ q ⇒ # 0 ≦ p from quadratic) tt p q a.0 k.left_in)
        (claim 2 (λ r s. ⊝ r ≺ # 0 ⇒ # 0 ≦ (⊝ r) ⊗ s ⇒ s ≦ # 0 from quadratic) tt r s a.1 k.right_in)
  ]
    where
      across : pos 0 <ℤ (q *ℤ neg_ℤ r)
      across = claim 4 (λ p q r s. # 0 ≺ q ⊗ ⊝ r ⊖ s ⊗ ⊝ p ⇒ # 0 ≺ q ⊗ ⊝ r ⊕ s ⊗ ⊝ p ⇒ # 0 ≺ q ⊗ ⊝ r from linear) tt p q r s t k.across

  -- and where the signs are so, no mixture of I's ends is outside J: q² times the product of its coordinates is a sum of which no term is below 0
  none_off : pos 0 <ℤ (q *ℤ q) → pos 0 ≤ℤ (neg_ℤ p *ℤ q) → pos 0 ≤ℤ (q *ℤ s) → Off q (neg_ℤ p) s (neg_ℤ r) → ⊥
  none_off a b c o =
      claim 6 (λ p q r s α β. # 0 ≺ q ⊗ ⊝ r ⊖ s ⊗ ⊝ p ⇒ # 0 ≺ q ⊗ q ⇒ # 0 ≦ (⊝ p) ⊗ q ⇒ # 0 ≦ q ⊗ s ⇒ # 0 ≺ β ⊗ α ⇒
      (α ⊗ ⊝ p ⊕ β ⊗ ⊝ r) ⊗ (α ⊗ q ⊕ β ⊗ s) ≺ # 0 ⇒ never
      by h 2 ⊠ h 6 ⊞ sq α ⊠ h 2 ⊠ h 3 ⊞ h 5 ⊠ (num 2 ⊠ h 3 ⊠ h 4 ⊞ h 2 ⊠ h 1) ⊞ sq β ⊠ (h 4 ⊠ h 1 ⊞ sq s ⊠ h 3)) tt
      p q r s o.α o.β t a b c o.one_sign o.outside

  inwards_not_off : Inwards p q s → Off q (neg_ℤ p) s (neg_ℤ r) → ⊥
  inwards_not_off (one_way a b c) = none_off
      (claim 1 (λ q. q ≺ # 0 ⇒ # 0 ≺ q ⊗ q from quadratic) tt q a)
      (claim 2 (λ p q. q ≺ # 0 ⇒ # 0 ≦ p ⇒ # 0 ≦ (⊝ p) ⊗ q from quadratic) tt p q a b)
      (claim 2 (λ q s. q ≺ # 0 ⇒ s ≦ # 0 ⇒ # 0 ≦ q ⊗ s from quadratic) tt q s a c)
  inwards_not_off (other_way a b c) = none_off
      (claim 1 (λ q. # 0 ≺ q ⇒ # 0 ≺ q ⊗ q from quadratic) tt q a)
      (claim 2 (λ p q. # 0 ≺ q ⇒ p ≦ # 0 ⇒ # 0 ≦ (⊝ p) ⊗ q from quadratic) tt p q a b)
      (claim 2 (λ q s. # 0 ≺ q ⇒ # 0 ≦ s ⇒ # 0 ≦ q ⊗ s from quadratic) tt q s a c)

  -- q is not 0 where p is
  not_nought : pos 0 ≤ℤ p → p ≤ℤ pos 0 → pos 0 ≤ℤ q → pos 0 <ℤ q
  not_nought a b c = elim (<-or-≥ (pos 0) q) [
    | inl l ↦ l
    | inr l ↦ absurd (claim 4 (λ p q r s. # 0 ≺ q ⊗ ⊝ r ⊖ s ⊗ ⊝ p ⇒ p ≈ # 0 ⇒ q ≈ # 0 ⇒ never from linear & s ⊡ h 2 & r ⊡ h 3) tt p q r s t (≤-antisym b a) (≤-antisym l c))
  ]

module _ {p q s : ℤ} where
  p_below : p <ℤ pos 0 → Inwards p q s → (pos 0 <ℤ q) × (pos 0 ≤ℤ s)
  p_below l (one_way a b c) = absurd (clash_ℤ l b)
  p_below l (other_way a b c) = (a, c)

  p_above : pos 0 <ℤ p → Inwards p q s → (q <ℤ pos 0) × (s ≤ℤ pos 0)
  p_above l (one_way a b c) = (a, c)
  p_above l (other_way a b c) = absurd (clash_ℤ l b)

  q_below : q <ℤ pos 0 → Inwards p q s → s ≤ℤ pos 0
  q_below l (one_way a b c) = c
  q_below l (other_way a b c) = absurd (clash_ℤ l (≤-of-< a))

  q_above : pos 0 <ℤ q → Inwards p q s → pos 0 ≤ℤ s
  q_above l (one_way a b c) = absurd (clash_ℤ l (≤-of-< a))
  q_above l (other_way a b c) = c

-- ---- the test, in the order of the function

abbrev pub by_signs : ℤ → ℤ → ℤ → Bool
by_signs p q s =
    cond (lt_z p (pos 0)) (cond (lt_z s (pos 0)) false (lt_z (pos 0) q))
    (cond (lt_z (pos 0) p) (cond (lt_z (pos 0) s) false (lt_z q (pos 0))) (cond (lt_z q (pos 0)) (le_z s (pos 0)) (le_z (pos 0) s)))

module _ {i j : List ℤ} (k : Interval i) (l : Interval j) where
  abbrev p : ℤ
  p = det (left i) (left j)

  abbrev q : ℤ
  q = det (left i) (right j)

  abbrev r : ℤ
  r = det (right i) (left j)

  abbrev s : ℤ
  s = det (right i) (right j)

  -- what is said of det(u, x) and det(u, y), said of p and r
  turned : (P : ℤ → ℤ → Type 0) → P (det (left j) (left i)) (det (left j) (right i)) → P (neg_ℤ p) (neg_ℤ r)
  turned P = subst₂ P (det_turned (left j) (left i)) (det_turned (left j) (right i))

  turns : pos 0 <ℤ (q *ℤ neg_ℤ r -ℤ s *ℤ neg_ℤ p)
  turns = turned (λ b d. pos 0 <ℤ (q *ℤ d -ℤ s *ℤ b)) (turn k l)

  -- an answer that is "yes" exactly if the signs are so is the test's
  decided : (b : Bool) {t : Bool} → Answer i j t → (T b → Inwards p q s) → (Inwards p q s → T b) → b ≡ t
  decided b (holds a) f g = agree b true (λ t. tt) (λ t. g (kept_inwards p q r s turns (turned (λ b d. Kept q b s d) a)))
  decided b (fails a) f g = agree b false (λ t. inwards_not_off p q r s turns (f t) (turned (λ b d. Off q b s d) a)) (λ t. absurd t)

  decide : (b : Bool) → (T b → Inwards p q s) → (Inwards p q s → T b) → b ≡ included? i j
  decide b = decided b (answer k l)

  compared : by_signs p q s ≡ included? i j
  compared = elim (<-or-≥ p (pos 0)) [
    | inl a ↦ elim (<-or-≥ s (pos 0)) [
      | inl b ↦ rw (true_lt a, true_lt b) (decide false (λ t. absurd t) (λ o. clash_ℤ b (p_below a o).1))
      | inr b ↦ rw (true_lt a, false_lt b) (decide (lt_z (pos 0) q) (λ t. other_way (lt_z_yes t) (≤-of-< a) b) (λ o. (p_below a o).0.lt))
    ]
    | inr a ↦ elim (<-or-≥ (pos 0) p) [
      | inl b ↦ elim (<-or-≥ (pos 0) s) [
        | inl c ↦ rw (false_lt a, true_lt b, true_lt c) (decide false (λ t. absurd t) (λ o. clash_ℤ c (p_above b o).1))
        | inr c ↦ rw (false_lt a, true_lt b, false_lt c) (decide (lt_z q (pos 0)) (λ t. one_way (lt_z_yes t) a c) (λ o. (p_above b o).0.lt))
      ]
      | inr b ↦ elim (<-or-≥ q (pos 0)) [
        | inl c ↦ rw (false_lt a, false_lt b, true_lt c) (decide (le_z s (pos 0)) (λ t. one_way c a (le_z_yes t)) (λ o. (q_below c o).le))
        | inr c ↦ let d = not_nought p q r s turns a b c in
            rw (false_lt a, false_lt b, false_lt c) (decide (le_z (pos 0) s) (λ t. other_way d b (le_z_yes t)) (λ o. (q_above d o).le))
      ]
    ]
  ]

  -- of the three numbers as words hold them
  pub by_signs_lem : {a b c : ℤ} → a ≡ p → b ≡ q → c ≡ s → by_signs a b c ≡ included? i j
  by_signs_lem f g o = (λ t. by_signs (f t) (g t) (o t)) ∙ compared

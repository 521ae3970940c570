-- An interval that is included in one narrower than a right angle is itself narrower than a right angle (`narrow`). So one of which `wide?` says that it is not is included in none
-- of those (`wide_not_included`).
-- The argument. In the four numbers of InclusionSigns.antt, n·x = a·u + b·v and n·y = c·u + d·v, where n = det(u, v). So n² times the dot product of x and y is
-- a·c·|u|² + (a·d + c·b)·(u·v) + b·d·|v|². Where I is included in J, no term is below 0, and the one between is above 0 if the dot product u·v of J's ends is.
use Rattle.whole.proofs.Laws.{◌≡◌, refl, Bool, true, false, not, ◌&&◌, ◌||◌, false≢true, List, ◌⊎◌, inl, inr, ℤ, pos, ◌+ℤ◌, ◌-ℤ◌, ◌*ℤ◌, lt_z, ◌≤ℤ◌, ◌<ℤ◌, clash_ℤ, at, ◌⊕◌, ◌⊖◌, ◌⊗◌, #, ◌≦◌, ◌≺◌, h, num, sq, ◌⊞◌, ◌⊠◌, linear, quadratic, ◌⇒◌, ◌by◌, ◌from◌, claim, lt_true, lt_false, both_true, false_by}
use mathlib.Core.Bool.{beq}
use Rattle.plane.proofs.Laws.{det_e, left, right, dot, Interval}
use Rattle.inclusion.specs.Inclusion.{included?}
use Rattle.inclusion.specs.Wide.{apart?, wide?}
use Rattle.inclusion.proofs.InclusionSigns.{Kept}
use Rattle.inclusion.proofs.Inclusion.{Seen, turn, answer, kept}

-- ---- an interval included in a narrow one

-- a·d is above 0, so that a·c has the sign of d·c, and b·d that of b·a
lefts : (a b c d : ℤ) → pos 0 <ℤ (a *ℤ d -ℤ c *ℤ b) → Kept a b c d → pos 0 ≤ℤ (a *ℤ c)
lefts a b c d t k =
    claim 4 (λ a b c d. # 0 ≺ a ⊗ d ⊖ c ⊗ b ⇒ # 0 ≺ a ⊗ d ⊕ c ⊗ b ⇒ # 0 ≦ d ⊗ c ⇒ # 0 ≦ a ⊗ c by h 0 ⊠ (h 1 ⊞ h 2) ⊞ num 2 ⊠ h 3 ⊠ sq a) tt
    a b c d t k.across k.right_in

rights : (a b c d : ℤ) → pos 0 <ℤ (a *ℤ d -ℤ c *ℤ b) → Kept a b c d → pos 0 ≤ℤ (b *ℤ d)
rights a b c d t k =
    claim 4 (λ a b c d. # 0 ≺ a ⊗ d ⊖ c ⊗ b ⇒ # 0 ≺ a ⊗ d ⊕ c ⊗ b ⇒ # 0 ≦ b ⊗ a ⇒ # 0 ≦ b ⊗ d by h 0 ⊠ (h 1 ⊞ h 2) ⊞ num 2 ⊠ h 3 ⊠ sq d) tt
    a b c d t k.across k.left_in

module _ {i j : List ℤ} (p : Interval i) (q : Interval j) (n : pos 0 <ℤ dot (left j) (right j)) where
  within : Seen Kept i j → pos 0 <ℤ dot (left i) (right i)
  within k =
      claim 8 (λ x0 x1 y0 y1 u0 u1 v0 v1.
      # 0 ≦ det_e x0 x1 v0 v1 ⊗ det_e y0 y1 v0 v1 ⇒ # 0 ≦ det_e u0 u1 x0 x1 ⊗ det_e u0 u1 y0 y1 ⇒
      # 0 ≺ det_e x0 x1 v0 v1 ⊗ det_e u0 u1 y0 y1 ⊕ det_e y0 y1 v0 v1 ⊗ det_e u0 u1 x0 x1 ⇒ # 0 ≺ u0 ⊗ v0 ⊕ u1 ⊗ v1 ⇒ # 0 ≺ x0 ⊗ y0 ⊕ x1 ⊗ y1
      by h 0 ⊠ sq (det_e u0 u1 v0 v1) ⊞ h 1 ⊠ (sq u0 ⊞ sq u1) ⊞ h 2 ⊠ (sq v0 ⊞ sq v1) ⊞ h 3 ⊠ h 4) tt
      (at i 0) (at i 1) (at i 2) (at i 3) (at j 0) (at j 1) (at j 2) (at j 3) (lefts _ _ _ _ (turn p q) k) (rights _ _ _ _ (turn p q) k) k.across n

  pub narrow : included? i j ≡ true → pos 0 <ℤ dot (left i) (right i)
  narrow e = within (kept (answer p q) e)

-- ---- an interval that is not narrow

apart_says : (p q : ℤ) → apart? p q ≡ true → (p *ℤ q) ≤ℤ pos 0
apart_says p q = split (lt_z p (pos 0)) (lt_z q (pos 0)) refl refl
  where
    split : (a b : Bool) → lt_z p (pos 0) ≡ a → lt_z q (pos 0) ≡ b → not (beq a b) ≡ true → (p *ℤ q) ≤ℤ pos 0
    split true true f g e = absurd (false≢true e)
    split true false f g e = claim 2 (λ p q. p ≺ # 0 ⇒ # 0 ≦ q ⇒ p ⊗ q ≦ # 0 from quadratic) tt p q (lt_true p (pos 0) f) (lt_false q (pos 0) g)
    split false true f g e = claim 2 (λ p q. # 0 ≦ p ⇒ q ≺ # 0 ⇒ p ⊗ q ≦ # 0 from quadratic) tt p q (lt_false p (pos 0) f) (lt_true q (pos 0) g)
    split false false f g e = absurd (false≢true e)

one_true : (a b : Bool) → (a || b) ≡ true → (a ≡ true) ⊎ (b ≡ true)
one_true true b e = inl refl
one_true false b e = inr e

-- what is apart in the first number and in the second; the sum of the two products is the dot product, or twice that
both_apart : (p q r s : ℤ) → (apart? p q && apart? r s) ≡ true → (p *ℤ q +ℤ r *ℤ s) ≤ℤ pos 0
both_apart p q r s e =
    let k = both_true (apart? p q) (apart? r s) e in
    claim 2 (λ a b. a ≦ # 0 ⇒ b ≦ # 0 ⇒ a ⊕ b ≦ # 0 from linear) tt (p *ℤ q) (r *ℤ s) (apart_says p q k.0) (apart_says r s k.1)

halved : (a b c d : ℤ) → ((a -ℤ b) *ℤ (c -ℤ d) +ℤ (a +ℤ b) *ℤ (c +ℤ d)) ≤ℤ pos 0 → (a *ℤ c +ℤ b *ℤ d) ≤ℤ pos 0
halved = claim 4 (λ a b c d. (a ⊖ b) ⊗ (c ⊖ d) ⊕ (a ⊕ b) ⊗ (c ⊕ d) ≦ # 0 ⇒ a ⊗ c ⊕ b ⊗ d ≦ # 0 from linear) tt

wide_says : (i : List ℤ) → wide? i ≡ true → dot (left i) (right i) ≤ℤ pos 0
unfolding wide?
wide_says i e =
    let a = at i 0 in
    let b = at i 1 in
    let c = at i 2 in
    let d = at i 3 in
    elim (one_true (apart? a c && apart? b d) (apart? (a -ℤ b) (c -ℤ d) && apart? (a +ℤ b) (c +ℤ d)) e) [
      | inl k ↦ both_apart a c b d k
      | inr k ↦ halved a b c d (both_apart (a -ℤ b) (c -ℤ d) (a +ℤ b) (c +ℤ d) k)
    ]

pub wide_not_included : {i j : List ℤ} → Interval i → Interval j → pos 0 <ℤ dot (left j) (right j) → wide? i ≡ true → included? i j ≡ false
wide_not_included {i} {j} p q n e = false_by (included? i j) (λ k. clash_ℤ (narrow p q n k) (wide_says i e))

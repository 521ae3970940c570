-- "Multiples are the same point" (document 01): that relation, and what does not see which multiple it is given.
-- Being the same point is reflexive, symmetric and transitive; of two points x and y it says that their determinant is 0 (then x·y times x is x·x times y, where the dot
-- stands for the sum of the products of their entries). Matrices carry same points to same points. Inside and closed ask for the sign of a product in which the point
-- stands twice, so a factor of the point comes in squared and the sign stays.
use Rattle.whole.proofs.Laws.{◌≡◌, refl, sym, ◌∙◌, ap, subst, inl, inr, List, arith, ℤ, pos, ◌+ℤ◌, ◌*ℤ◌, at, ◌⊕◌, ◌⊗◌, #, ◌≗◌, law, nn_sq, ◌≦◌, ◌≈◌, h, ◌⊡◌, linear, ◌&◌, ◌⇒◌, ◌from◌, claim, zero_product, up<}
use Rattle.plane.specs.Plane.{Pair, Point, SamePoint, det, apply, determinant_of, pseudoinverse_of, Inside, Closed}
use Rattle.plane.specs.Scale.{scale_pair, scale_of, DetAbove, SameSign}
use Rattle.plane.proofs.SameSign.{same_sign, above_not_0, product_not_0, cancel_not_0, square_above}
use Rattle.plane.proofs.Identities.{det_e, apply_scale, apply_scale_pair, scale_scale_pair, pseudoinverse_apply, apply_pseudoinverse}
use Rattle.plane.proofs.Moves.{between, inside_sign, closed_sign, point_scale}

-- ---- the relation

-- k·x = l·y, as pairs
pub same_point : (k l : ℤ) {x y : Pair} → (k ≡ pos 0 → ⊥) → (l ≡ pos 0 → ⊥) → scale_pair k x ≡ scale_pair l y → SamePoint x y
unfolding scale_pair
same_point k l f g e = record { k = k; l = l; k_not_0 = f; l_not_0 = g; same0 = λ i. (e i).z0; same1 = λ i. (e i).z1 }

pub same_pair : {x y : Pair} (s : SamePoint x y) → scale_pair s.k x ≡ scale_pair s.l y
unfolding scale_pair
same_pair s = λ i. record { z0 = s.same0 i; z1 = s.same1 i }

one_not_0 : pos 1 ≡ pos 0 → ⊥
one_not_0 = above_not_0 (up< (omega arith))

pub same_refl : (x : Pair) → SamePoint x x
same_refl x = same_point (pos 1) (pos 1) one_not_0 one_not_0 refl

pub same_sym : {x y : Pair} → SamePoint x y → SamePoint y x
same_sym s = same_point s.l s.k s.l_not_0 s.k_not_0 (sym (same_pair s))

-- k·x = l·y and p·y = q·z make (p·k)·x = (l·q)·z
pub same_trans : {x y z : Pair} → SamePoint x y → SamePoint y z → SamePoint x z
same_trans {x} {y} {z} s t =
    same_point (t.k *ℤ s.k) (s.l *ℤ t.l) (product_not_0 t.k_not_0 s.k_not_0) (product_not_0 s.l_not_0 t.l_not_0)
    (sym (scale_scale_pair t.k s.k x) ∙ ap (scale_pair t.k) (same_pair s) ∙ scale_scale_pair t.k s.l y ∙
    ap (λ (n : ℤ). scale_pair n y) (law 2 (λ a b. a ⊗ b ≗ b ⊗ a) tt t.k s.l) ∙
    sym (scale_scale_pair s.l t.k y) ∙ ap (scale_pair s.l) (same_pair t) ∙ scale_scale_pair s.l t.l z)

pub same_scale : (k : ℤ) (z : Pair) → (k ≡ pos 0 → ⊥) → SamePoint z (scale_pair k z)
same_scale k z f = same_point k (pos 1) f one_not_0 (ap (λ (n : ℤ). scale_pair n z) (law 1 (λ k. k ≗ # 1 ⊗ k) tt k) ∙ sym (scale_scale_pair (pos 1) k z))

-- y is k·z
pub same_multiple : (k : ℤ) {z y : Pair} → (k ≡ pos 0 → ⊥) → y ≡ scale_pair k z → SamePoint z y
same_multiple k {z} f e = subst (λ (y : Pair). SamePoint z y) (sym e) (same_scale k z f)

nought : (l a : ℤ) → a ≡ pos 0 → l *ℤ a ≡ pos 0
nought = claim 2 (λ l a. a ≈ # 0 ⇒ l ⊗ a ≈ # 0 from linear & l ⊡ h 1) tt

-- what is the same as a point is a point
pub point_same : {x y : Pair} → SamePoint x y → Point x → Point y
unfolding scale_pair
point_same {x} {y} s p =
    let q = subst Point (same_pair s) (point_scale s.k s.k_not_0 p) in
    record { not_both = λ e f. q.not_both (nought s.l y.z0 e) (nought s.l y.z1 f) }

-- ---- "the same" and determinant 0

pub same_det : {x y : Pair} → SamePoint x y → det x y ≡ pos 0
same_det {x} {y} s = cancel_not_0 s.k_not_0
    (claim 6 (λ k l a b c d. k ⊗ a ≈ l ⊗ c ⇒ k ⊗ b ≈ l ⊗ d ⇒ k ⊗ det_e a b c d ≈ # 0 from linear & d ⊡ h 1 & c ⊡ h 2) tt
    s.k s.l x.z0 x.z1 y.z0 y.z1 s.same0 s.same1)

-- of a point, the sum of the squares is not 0
no_squares : {x : Pair} → Point x → x.z0 *ℤ x.z0 +ℤ x.z1 *ℤ x.z1 ≡ pos 0 → ⊥
no_squares {x} p e = p.not_both (first x.z0 x.z1 e) (first x.z1 x.z0 (law 2 (λ a b. b ⊕ a ≗ a ⊕ b) tt (x.z0 *ℤ x.z0) (x.z1 *ℤ x.z1) ∙ e))
  where
    first : (a b : ℤ) → a *ℤ a +ℤ b *ℤ b ≡ pos 0 → a ≡ pos 0
    first a b e =
        let z = claim 2 (λ p q. # 0 ≦ p ⇒ # 0 ≦ q ⇒ p ⊕ q ≈ # 0 ⇒ p ≈ # 0 from linear) tt (a *ℤ a) (b *ℤ b) (nn_sq a) (nn_sq b) e in
        elim (zero_product a a z) [ inl k ↦ k | inr k ↦ k ]

-- (x0·y0 + x1·y1)·x = (x0·x0 + x1·x1)·y
pub det_same : {x y : Pair} → Point x → Point y → det x y ≡ pos 0 → SamePoint x y
det_same {x} {y} p q e = record {
  k = across;
  l = x.z0 *ℤ x.z0 +ℤ x.z1 *ℤ x.z1;
  k_not_0 = λ z. q.not_both (cancel_not_0 (no_squares p) (sym first ∙ gone x.z0 z)) (cancel_not_0 (no_squares p) (sym second ∙ gone x.z1 z));
  l_not_0 = no_squares p;
  same0 = first;
  same1 = second;
}
  where
    across : ℤ
    across = x.z0 *ℤ y.z0 +ℤ x.z1 *ℤ y.z1

    gone : (a : ℤ) → across ≡ pos 0 → across *ℤ a ≡ pos 0
    gone a z = claim 2 (λ k a. k ≈ # 0 ⇒ k ⊗ a ≈ # 0 from linear & a ⊡ h 1) tt across a z

    first : across *ℤ x.z0 ≡ (x.z0 *ℤ x.z0 +ℤ x.z1 *ℤ x.z1) *ℤ y.z0
    first = claim 4 (λ a b c d. det_e a b c d ≈ # 0 ⇒ (a ⊗ c ⊕ b ⊗ d) ⊗ a ≈ (a ⊗ a ⊕ b ⊗ b) ⊗ c from linear & b ⊡ h 1) tt x.z0 x.z1 y.z0 y.z1 e

    second : across *ℤ x.z1 ≡ (x.z0 *ℤ x.z0 +ℤ x.z1 *ℤ x.z1) *ℤ y.z1
    second = claim 4 (λ a b c d. det_e a b c d ≈ # 0 ⇒ (a ⊗ c ⊕ b ⊗ d) ⊗ b ≈ (a ⊗ a ⊕ b ⊗ b) ⊗ d from linear & a ⊡ h 1) tt x.z0 x.z1 y.z0 y.z1 e

-- ---- matrices

pub same_moves : (m : List ℤ) {x y : Pair} → SamePoint x y → SamePoint (apply m x) (apply m y)
same_moves m {x} {y} s = same_point s.k s.l s.k_not_0 s.l_not_0
    (sym (apply_scale_pair s.k m x) ∙ ap (apply m) (same_pair s) ∙ apply_scale_pair s.l m y)

-- the pseudoinverse leads back, to a multiple, and from there forth
pub same_undone : {m : List ℤ} → DetAbove m → (z : Pair) → SamePoint z (apply (pseudoinverse_of m) (apply m z))
same_undone {m} k z = same_multiple (determinant_of m) (above_not_0 k.above) (pseudoinverse_apply m z)

pub same_redone : {m : List ℤ} → DetAbove m → (z : Pair) → SamePoint z (apply m (apply (pseudoinverse_of m) z))
same_redone {m} k z = same_multiple (determinant_of m) (above_not_0 k.above) (apply_pseudoinverse m z)

pub same_back : {m : List ℤ} {x y : Pair} → DetAbove m → SamePoint (apply m x) (apply m y) → SamePoint x y
same_back {m} {x} {y} k s = same_trans (same_undone k x) (same_trans (same_moves (pseudoinverse_of m) s) (same_sym (same_undone k y)))

-- a multiple of a matrix sends a point to the same point
pub same_scaled : (k : ℤ) (m : List ℤ) (z : Pair) → (k ≡ pos 0 → ⊥) → SamePoint (apply m z) (apply (scale_of k m) z)
same_scaled k m z f = same_multiple k f (apply_scale k m z)

-- ---- inside and closed, with another multiple of the point

squared : (w : List ℤ) (k : ℤ) (z : Pair) → k *ℤ k *ℤ between w z ≡ between w (scale_pair k z)
unfolding scale_pair
squared w k z = law 7 (λ k a b c d x y. k ⊗ k ⊗ (det_e a b x y ⊗ det_e x y c d) ≗ det_e a b (k ⊗ x) (k ⊗ y) ⊗ det_e (k ⊗ x) (k ⊗ y) c d) tt
    k (at w 0) (at w 1) (at w 2) (at w 3) z.z0 z.z1

pub between_same : {x y : Pair} → SamePoint x y → (w : List ℤ) → SameSign (between w x) (between w y)
between_same {x} {y} s w =
    same_sign (s.k *ℤ s.k) (s.l *ℤ s.l) (square_above s.k s.k_not_0) (square_above s.l s.l_not_0)
    (squared w s.k x ∙ ap (between w) (same_pair s) ∙ sym (squared w s.l y))

pub inside_same : {w : List ℤ} {x y : Pair} → SamePoint x y → Inside w x → Inside w y
inside_same {w} s = inside_sign (between_same s w)

pub closed_same : {w : List ℤ} {x y : Pair} → SamePoint x y → Closed w x → Closed w y
closed_same {w} s = closed_sign (between_same s w)

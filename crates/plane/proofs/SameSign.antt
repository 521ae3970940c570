-- Numbers of one sign. Two numbers that have a positive multiple in common, k·p = l·q with k and l above 0, lie both above 0, both below it, or are both 0.
-- Everything in this crate that stays what it was (inside, closed, an interval, the sign of a determinant or of a matrix entry: document 01's "Signs stay") stays by
-- this.
use Rattle.whole.proofs.Laws.{◌≡◌, ◌∙◌, inl, inr, ℤ, pos, ◌*ℤ◌, ◌≤ℤ◌, ◌<ℤ◌, clash_ℤ, ◌⊗◌, #, ◌≗◌, law, ≤-by, ◌≺◌, ◌≈◌, never, linear, quadratic, ◌⇒◌, ◌from◌, claim, less, same, more, tri, zero_product}
use Rattle.plane.specs.Scale.{SameSign}

pub same_sign : (k l : ℤ) {p q : ℤ} → pos 0 <ℤ k → pos 0 <ℤ l → k *ℤ p ≡ l *ℤ q → SameSign p q
same_sign k l {p} {q} hk hl e = record {
  above = claim 4 (λ k l p q. # 0 ≺ k ⇒ # 0 ≺ l ⇒ k ⊗ p ≈ l ⊗ q ⇒ # 0 ≺ p ⇒ # 0 ≺ q from quadratic) tt k l p q hk hl e;
  below = claim 4 (λ k l p q. # 0 ≺ k ⇒ # 0 ≺ l ⇒ k ⊗ p ≈ l ⊗ q ⇒ p ≺ # 0 ⇒ q ≺ # 0 from quadratic) tt k l p q hk hl e;
  zero = claim 4 (λ k l p q. # 0 ≺ k ⇒ # 0 ≺ l ⇒ k ⊗ p ≈ l ⊗ q ⇒ p ≈ # 0 ⇒ q ≈ # 0 from quadratic) tt k l p q hk hl e;
}

-- q is k times p
pub grown : (k : ℤ) {p q : ℤ} → pos 0 <ℤ k → k *ℤ p ≡ q → SameSign p q
grown k {p} {q} h e = same_sign k (pos 1) h one (e ∙ law 1 (λ q. q ≗ # 1 ⊗ q) tt q)
  where
    one : pos 0 <ℤ pos 1
    one = claim 0 (# 0 ≺ # 1 from linear) tt

-- one of three holds, so that the relation goes both ways
never_both : {a : ℤ} → a <ℤ pos 0 → pos 0 <ℤ a → ⊥
never_both {a} = claim 1 (λ a. a ≺ # 0 ⇒ # 0 ≺ a ⇒ never from linear) tt a

pub above_not_0 : {a : ℤ} → pos 0 <ℤ a → a ≡ pos 0 → ⊥
above_not_0 {a} = claim 1 (λ a. # 0 ≺ a ⇒ a ≈ # 0 ⇒ never from linear) tt a

pub below_not_0 : {a : ℤ} → a <ℤ pos 0 → a ≡ pos 0 → ⊥
below_not_0 {a} = claim 1 (λ a. a ≺ # 0 ⇒ a ≈ # 0 ⇒ never from linear) tt a

pub sign_back : {p q : ℤ} → SameSign p q → SameSign q p
sign_back {p} {q} s = elim (tri p (pos 0)) [
  | less h ↦ record { above = λ k. absurd (never_both (s.below h) k); below = λ k. h; zero = λ k. absurd (below_not_0 (s.below h) k) }
  | same h ↦ record { above = λ k. absurd (above_not_0 k (s.zero h)); below = λ k. absurd (below_not_0 k (s.zero h)); zero = λ k. h }
  | more h ↦ record { above = λ k. h; below = λ k. absurd (never_both k (s.above h)); zero = λ k. absurd (above_not_0 (s.above h) k) }
]

pub sign_not_below : {p q : ℤ} → SameSign p q → pos 0 ≤ℤ p → pos 0 ≤ℤ q
sign_not_below s h = ≤-by (λ k. clash_ℤ ((sign_back s).below k) h)

-- ---- numbers that are not 0

pub product_not_0 : {a b : ℤ} → (a ≡ pos 0 → ⊥) → (b ≡ pos 0 → ⊥) → a *ℤ b ≡ pos 0 → ⊥
product_not_0 {a} {b} f g e = elim (zero_product a b e) [ inl h ↦ f h | inr h ↦ g h ]

pub cancel_not_0 : {a b : ℤ} → (a ≡ pos 0 → ⊥) → a *ℤ b ≡ pos 0 → b ≡ pos 0
cancel_not_0 {a} {b} f e = elim (zero_product a b e) [ inl h ↦ absurd (f h) | inr h ↦ h ]

pub square_above : (a : ℤ) → (a ≡ pos 0 → ⊥) → pos 0 <ℤ (a *ℤ a)
square_above a f = elim (tri a (pos 0)) [
  | less h ↦ claim 1 (λ a. a ≺ # 0 ⇒ # 0 ≺ a ⊗ a from quadratic) tt a h
  | same h ↦ absurd (f h)
  | more h ↦ claim 1 (λ a. # 0 ≺ a ⇒ # 0 ≺ a ⊗ a from quadratic) tt a h
]

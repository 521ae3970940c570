-- The laws of the order that proofs cite by name: three cases of two numbers, signs of products and of their factors, cancelling, and the way from natural numbers to whole
-- numbers and back.
--
-- Each is a `claim` or two (proofs/Worked.antt explains how to read one), stated in plain ℤ. A law that is missing here is one line by `claim` where it is wanted. A number
-- that a hypothesis shows only under a product is not inferred, and is written: with p : pos 0 <ℤ a and e : a *ℤ b ≡ a *ℤ c, `cancel_pos a b c p e : b ≡ c`.
-- Elsewhere: ≤ is reflexive, < is not, and a < b ≤ c (`≤ℤ_refl`, `<ℤ_irrefl`, `<ℤ-≤ℤ_trans`, and `clash_ℤ` for two facts that can't both hold) in the kit's `lib.Signed`;
-- antisymmetry (`≤-antisym`) and proofs by contradiction (`≤-by`, `<-by`) in proofs/Order.antt; what a test says in proofs/Test.antt.
-- Private: the cases of `product_ps` and `zero_product` (`factor_ps`, `turned_..`, `nought_ps`, `factor_zero`).
use Rattle.whole.proofs.Base.{◌≡◌, ap, ◌⊎◌, inl, inr, ℕ, ◌≤◌, ◌<◌, zero-le, leb→le, le→leb, ltb→lt, lt→ltb, ℤ, pos, nat_abs, ◌*ℤ◌, ◌≤ℤ◌, ◌<ℤ◌, le_z_yes, lt_z_yes}
use Rattle.whole.proofs.Polynomial.{◌⊗◌}
use Rattle.whole.proofs.Law.{#}
use Rattle.whole.proofs.Order.{<-or-≥, ≤-antisym}
use Rattle.whole.proofs.Certificate.{◌≦◌, ◌≺◌, ◌≈◌, never, h, ◌⊡◌}
use Rattle.whole.proofs.Search.{linear, quadratic, ◌&◌}
use Rattle.whole.proofs.Claim.{◌⇒◌, ◌from◌, claim}

-- ---- three cases: `elim (tri a b) [ less p ↦ .. | same p ↦ .. | more p ↦ .. ]`

pub data Tri (a b : ℤ) : Type 0 where
  less : a <ℤ b → Tri a b
  same : a ≡ b → Tri a b
  more : b <ℤ a → Tri a b

pub tri : (a b : ℤ) → Tri a b
tri a b = elim (<-or-≥ a b) [ inl p ↦ less p | inr p ↦ elim (<-or-≥ b a) [ inl q ↦ more q | inr q ↦ same (≤-antisym q p) ] ]

-- ---- signs: `ps` above 0, `nn` not below, `np` not above. Of a product, from its factors (`ps_mul` and `nn_mul` are in proofs/Order.antt)

pub np_np_mul : {a b : ℤ} → a ≤ℤ pos 0 → b ≤ℤ pos 0 → pos 0 ≤ℤ (a *ℤ b)
np_np_mul {a} {b} = claim 2 (λ a b. a ≦ # 0 ⇒ b ≦ # 0 ⇒ # 0 ≦ a ⊗ b from quadratic) tt a b

-- ---- the sign of a factor, from that of the product and of the other factor, a, which is above 0

factor_ps : (a b : ℤ) → pos 0 <ℤ a → pos 0 <ℤ (a *ℤ b) → pos 0 <ℤ b
factor_ps = claim 2 (λ a b. # 0 ≺ a ⇒ # 0 ≺ a ⊗ b ⇒ # 0 ≺ b from quadratic) tt

pub factor_nn : (a b : ℤ) → pos 0 <ℤ a → pos 0 ≤ℤ (a *ℤ b) → pos 0 ≤ℤ b
factor_nn = claim 2 (λ a b. # 0 ≺ a ⇒ # 0 ≦ a ⊗ b ⇒ # 0 ≦ b from quadratic) tt

pub factor_np : (a b : ℤ) → pos 0 <ℤ a → (a *ℤ b) ≤ℤ pos 0 → b ≤ℤ pos 0
factor_np = claim 2 (λ a b. # 0 ≺ a ⇒ a ⊗ b ≦ # 0 ⇒ b ≦ # 0 from quadratic) tt

-- the same of a factor a that is below 0, which turns the sign
turned_ps : (a b : ℤ) → a <ℤ pos 0 → pos 0 <ℤ (a *ℤ b) → b <ℤ pos 0
turned_ps = claim 2 (λ a b. a ≺ # 0 ⇒ # 0 ≺ a ⊗ b ⇒ b ≺ # 0 from quadratic) tt

turned_zero : (a b : ℤ) → a <ℤ pos 0 → a *ℤ b ≡ pos 0 → b ≡ pos 0
turned_zero = claim 2 (λ a b. a ≺ # 0 ⇒ a ⊗ b ≈ # 0 ⇒ b ≈ # 0 from quadratic) tt

factor_zero : (a b : ℤ) → pos 0 <ℤ a → a *ℤ b ≡ pos 0 → b ≡ pos 0
factor_zero = claim 2 (λ a b. # 0 ≺ a ⇒ a ⊗ b ≈ # 0 ⇒ b ≈ # 0 from quadratic) tt

-- a product that is not 0 has no factor 0
nought_ps : (a b : ℤ) → a ≡ pos 0 → pos 0 <ℤ (a *ℤ b) → ⊥
nought_ps = claim 2 (λ a b. a ≈ # 0 ⇒ # 0 ≺ a ⊗ b ⇒ never from linear & b ⊡ h 1) tt

-- ---- the signs of both factors, from that of the product

pub product_ps : (a b : ℤ) → pos 0 <ℤ (a *ℤ b) → ((pos 0 <ℤ a) × (pos 0 <ℤ b)) ⊎ ((a <ℤ pos 0) × (b <ℤ pos 0))
product_ps a b e = elim (tri a (pos 0)) [ less p ↦ inr (p, turned_ps a b p e) | same p ↦ absurd (nought_ps a b p e) | more p ↦ inl (p, factor_ps a b p e) ]

pub zero_product : (a b : ℤ) → a *ℤ b ≡ pos 0 → (a ≡ pos 0) ⊎ (b ≡ pos 0)
zero_product a b e = elim (tri a (pos 0)) [ less p ↦ inr (turned_zero a b p e) | same p ↦ inl p | more p ↦ inr (factor_zero a b p e) ]

-- ---- a positive factor cancelled

pub cancel_pos : (a b c : ℤ) → pos 0 <ℤ a → a *ℤ b ≡ a *ℤ c → b ≡ c
cancel_pos = claim 3 (λ a b c. # 0 ≺ a ⇒ a ⊗ b ≈ a ⊗ c ⇒ b ≈ c from quadratic) tt

-- ---- the naturals: `pos a +ℤ pos b` is `pos (a + b)` and `pos a *ℤ pos b` is `pos (a * b)`, by computation. So a fact of naturals goes up into ℤ, through a `law` or
-- a `claim`, and down again; `nat n` is what the claim may be told of each

pub up≤ : {a b : ℕ} → a ≤ b → pos a ≤ℤ pos b
up≤ {a} {b} p = le_z_yes (le→leb a b p)

pub up< : {a b : ℕ} → a < b → pos a <ℤ pos b
up< {a} {b} p = lt_z_yes (lt→ltb a b p)

pub down≤ : {a b : ℕ} → pos a ≤ℤ pos b → a ≤ b
down≤ {a} {b} p = leb→le a b p.le

pub down< : {a b : ℕ} → pos a <ℤ pos b → a < b
down< {a} {b} p = ltb→lt a b p.lt

pub down≡ : {a b : ℕ} → pos a ≡ pos b → a ≡ b
down≡ p = ap nat_abs p

pub nat : (n : ℕ) → pos 0 ≤ℤ pos n
nat n = up≤ zero-le

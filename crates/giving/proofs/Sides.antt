-- Numbers on one side of 0, `true` for ≥ 0 and `false` for ≤ 0 (0 lies on both): if α and β lie on one side, and a and b on one, then α·a + β·b lies on the side that the rule of
-- signs tells. And of two numbers: they lie on one side exactly if their product is not below 0.
use Rattle.whole.proofs.Laws.{◌≡◌, Bool, true, false, not, ℤ, pos, ◌+ℤ◌, ◌*ℤ◌, ◌≤ℤ◌, ◌⊕◌, ◌⊗◌, #, ◌≦◌, ◌≺◌, ◌≈◌, h, ◌⊠◌, linear, quadratic, ◌&◌, ◌⇒◌, ◌from◌, claim, nn_mul, ≤-of-<, less, same, more, tri, np_np_mul, factor_nn}

pub data Side : Bool → ℤ → Type 0 where
  above : {z : ℤ} → pos 0 ≤ℤ z → Side true z
  below : {z : ℤ} → z ≤ℤ pos 0 → Side false z

-- ---- mixtures

-- the rule of signs
abbrev pub rule : Bool → Bool → Bool
rule true t = t
rule false t = not t

pub mix_side : {s t : Bool} {α β a b : ℤ} → Side s α → Side s β → Side t a → Side t b → Side (rule s t) (α *ℤ a +ℤ β *ℤ b)
mix_side {α = α} {β = β} {a = a} {b = b} (above p) (above q) (above k) (above l) =
    above (claim 4 (λ α β a b. # 0 ≦ α ⇒ # 0 ≦ β ⇒ # 0 ≦ a ⇒ # 0 ≦ b ⇒ # 0 ≦ α ⊗ a ⊕ β ⊗ b from linear & h 1 ⊠ h 3 & h 2 ⊠ h 4) tt α β a b p q k l)
mix_side {α = α} {β = β} {a = a} {b = b} (above p) (above q) (below k) (below l) =
    below (claim 4 (λ α β a b. # 0 ≦ α ⇒ # 0 ≦ β ⇒ a ≦ # 0 ⇒ b ≦ # 0 ⇒ α ⊗ a ⊕ β ⊗ b ≦ # 0 from linear & h 1 ⊠ h 3 & h 2 ⊠ h 4) tt α β a b p q k l)
mix_side {α = α} {β = β} {a = a} {b = b} (below p) (below q) (above k) (above l) =
    below (claim 4 (λ α β a b. α ≦ # 0 ⇒ β ≦ # 0 ⇒ # 0 ≦ a ⇒ # 0 ≦ b ⇒ α ⊗ a ⊕ β ⊗ b ≦ # 0 from linear & h 1 ⊠ h 3 & h 2 ⊠ h 4) tt α β a b p q k l)
mix_side {α = α} {β = β} {a = a} {b = b} (below p) (below q) (below k) (below l) =
    above (claim 4 (λ α β a b. α ≦ # 0 ⇒ β ≦ # 0 ⇒ a ≦ # 0 ⇒ b ≦ # 0 ⇒ # 0 ≦ α ⊗ a ⊕ β ⊗ b from linear & h 1 ⊠ h 3 & h 2 ⊠ h 4) tt α β a b p q k l)

-- ---- a product that is not below 0

pub one_side : (b a : ℤ) → pos 0 ≤ℤ (b *ℤ a) → (s : Bool) × (Side s a) × (Side s b)
one_side b a p = elim (tri b (pos 0)) [
  | less k ↦ (false, below (claim 2 (λ b a. # 0 ≦ b ⊗ a ⇒ b ≺ # 0 ⇒ a ≦ # 0 from quadratic) tt b a p k), below (≤-of-< k))
  | same k ↦ either (zero b k)
  | more k ↦ (true, above (factor_nn b a k p), above (≤-of-< k))
]
  where
    zero : (b : ℤ) → b ≡ pos 0 → (Side true b) × (Side false b)
    zero b k = (above (claim 1 (λ b. b ≈ # 0 ⇒ # 0 ≦ b from linear) tt b k), below (claim 1 (λ b. b ≈ # 0 ⇒ b ≦ # 0 from linear) tt b k))

    either : (Side true b) × (Side false b) → (s : Bool) × (Side s a) × (Side s b)
    either z = elim (tri a (pos 0)) [ less k ↦ (false, below (≤-of-< k), z.1) | same k ↦ (true, (zero a k).0, z.0) | more k ↦ (true, above (≤-of-< k), z.0) ]

pub product : {s : Bool} {a b : ℤ} → Side s a → Side s b → pos 0 ≤ℤ (b *ℤ a)
product (above p) (above q) = nn_mul q p
product (below p) (below q) = np_np_mul q p

-- The ring laws of ℤ that the kit's `lib.IntN` lacks: both distributive laws, the associative law of products, signs of products, and 1.
--
-- `lib.IntN` has the laws of sums, and what a step up or down does to a product (`suc_ℤ-*ℤ`, `pred_ℤ-*ℤ`). The laws here go by such steps: the private `ind` is the
-- induction from 0 both ways. They are what proofs/Polynomial.antt is built on. Anywhere else an identity is one line by `law` (proofs/Law.antt), and no chain of these.
use Rattle.whole.proofs.Base.{◌≡◌, sym, ◌∙◌, ap, ap₂, zero, suc, ℤ, pos, negsuc, neg_ℤ, ◌+ℤ◌, ◌*ℤ◌, ◌-ℤ◌, +ℤ_idl, +ℤ_idr, +ℤ_assoc, +ℤ_comm, +ℤ_invl, zero-*ℤ, *ℤ_comm}
use lib.IntN.{suc_ℤ, pred_ℤ, +ℤ_invr, suc_ℤ-*ℤ, pred_ℤ-*ℤ, suc_ℤ-+ℤ, pred_ℤ-+ℤ}

-- from 0, up and down
ind : (P : ℤ → Type 0) → P (pos zero) → ((k : ℤ) → P k → P (suc_ℤ k)) → ((k : ℤ) → P k → P (pred_ℤ k)) → (k : ℤ) → P k
ind P z s p (pos zero) = z
ind P z s p (pos (suc n)) = s (pos n) (ind P z s p (pos n))
ind P z s p (negsuc zero) = p (pos zero) z
ind P z s p (negsuc (suc n)) = p (negsuc n) (ind P z s p (negsuc n))

-- (x + y) + z = (x + z) + y
pub swap_r : (x y z : ℤ) → (x +ℤ y) +ℤ z ≡ (x +ℤ z) +ℤ y
swap_r x y z = +ℤ_assoc x y z ∙ ap (λ w. x +ℤ w) (+ℤ_comm y z) ∙ sym (+ℤ_assoc x z y)

-- ---- products of sums

pub distrib_r : (a b c : ℤ) → (a +ℤ b) *ℤ c ≡ a *ℤ c +ℤ b *ℤ c
distrib_r a b c = ind (λ a. (a +ℤ b) *ℤ c ≡ a *ℤ c +ℤ b *ℤ c)
    (ap (λ w. w *ℤ c) (+ℤ_idl b) ∙ sym (ap (λ w. w +ℤ b *ℤ c) (zero-*ℤ c) ∙ +ℤ_idl (b *ℤ c)))
    (λ k h. ap (λ w. w *ℤ c) (suc_ℤ-+ℤ k b) ∙ suc_ℤ-*ℤ (k +ℤ b) c ∙ ap (λ w. w +ℤ c) h ∙ swap_r (k *ℤ c) (b *ℤ c) c ∙ sym (ap (λ w. w +ℤ b *ℤ c) (suc_ℤ-*ℤ k c)))
    (λ k h. ap (λ w. w *ℤ c) (pred_ℤ-+ℤ k b) ∙ pred_ℤ-*ℤ (k +ℤ b) c ∙ ap (λ w. w -ℤ c) h ∙ swap_r (k *ℤ c) (b *ℤ c) (neg_ℤ c) ∙ sym (ap (λ w. w +ℤ b *ℤ c) (pred_ℤ-*ℤ k c)))
    a

-- ---- signs: x + y = 0 → y = −x, so a sign may be taken out of a product on either side
pub neg_unique : (x y : ℤ) → x +ℤ y ≡ pos zero → y ≡ neg_ℤ x
neg_unique x y h = sym (+ℤ_idl y) ∙ ap (λ w. w +ℤ y) (sym (+ℤ_invl x)) ∙ +ℤ_assoc (neg_ℤ x) x y ∙ ap (λ w. neg_ℤ x +ℤ w) h ∙ +ℤ_idr (neg_ℤ x)

pub neg_mul : (a b : ℤ) → neg_ℤ a *ℤ b ≡ neg_ℤ (a *ℤ b)
neg_mul a b = neg_unique (a *ℤ b) (neg_ℤ a *ℤ b) (sym (distrib_r a (neg_ℤ a) b) ∙ ap (λ w. w *ℤ b) (+ℤ_invr a) ∙ zero-*ℤ b)

pub mul_neg : (a b : ℤ) → a *ℤ neg_ℤ b ≡ neg_ℤ (a *ℤ b)
mul_neg a b = *ℤ_comm a (neg_ℤ b) ∙ neg_mul b a ∙ ap neg_ℤ (*ℤ_comm b a)

pub distrib_l : (a b c : ℤ) → a *ℤ (b +ℤ c) ≡ a *ℤ b +ℤ a *ℤ c
distrib_l a b c = *ℤ_comm a (b +ℤ c) ∙ distrib_r b c a ∙ ap₂ (λ v w. v +ℤ w) (*ℤ_comm b a) (*ℤ_comm c a)

-- ---- products of three, and the orders of sums and products that the normal form needs

pub *ℤ-assoc : (a b c : ℤ) → (a *ℤ b) *ℤ c ≡ a *ℤ (b *ℤ c)
*ℤ-assoc a b c = ind (λ a. (a *ℤ b) *ℤ c ≡ a *ℤ (b *ℤ c))
    (ap (λ w. w *ℤ c) (zero-*ℤ b) ∙ zero-*ℤ c ∙ sym (zero-*ℤ (b *ℤ c)))
    (λ k h. ap (λ w. w *ℤ c) (suc_ℤ-*ℤ k b) ∙ distrib_r (k *ℤ b) b c ∙ ap (λ w. w +ℤ b *ℤ c) h ∙ sym (suc_ℤ-*ℤ k (b *ℤ c)))
    (λ k h. ap (λ w. w *ℤ c) (pred_ℤ-*ℤ k b) ∙ distrib_r (k *ℤ b) (neg_ℤ b) c ∙ ap₂ (λ v w. v +ℤ w) h (neg_mul b c) ∙ sym (pred_ℤ-*ℤ k (b *ℤ c)))
    a

pub one_*ℤ : (a : ℤ) → pos 1 *ℤ a ≡ a
one_*ℤ a = suc_ℤ-*ℤ (pos zero) a ∙ ap (λ w. w +ℤ a) (zero-*ℤ a) ∙ +ℤ_idl a

-- (x + y) + (z + w) = (x + z) + (y + w)
pub interchange : (x y z w : ℤ) → (x +ℤ y) +ℤ (z +ℤ w) ≡ (x +ℤ z) +ℤ (y +ℤ w)
interchange x y z w = sym (+ℤ_assoc (x +ℤ y) z w) ∙ ap (λ u. u +ℤ w) (swap_r x y z) ∙ +ℤ_assoc (x +ℤ z) y w

pub mul_left_comm : (x y z : ℤ) → x *ℤ (y *ℤ z) ≡ y *ℤ (x *ℤ z)
mul_left_comm x y z = sym (*ℤ-assoc x y z) ∙ ap (λ w. w *ℤ z) (*ℤ_comm x y) ∙ *ℤ-assoc y x z

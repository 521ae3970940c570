-- What is known of the sign of a value: not negative, positive, or 0; and of sums and products of such values. proofs/Certificate.antt is built on it.
use Rattle.whole.proofs.Base.{◌≡◌, sym, ◌∙◌, ap, subst, Bool, not, ℕ, zero-le, zero, suc, ◌<◌, arith, T, lt→ltb, le→leb, T_not, ℤ, pos, ◌+ℤ◌, ◌*ℤ◌, +ℤ_comm, +ℤ_idl, +ℤ_idr, *ℤ-zero, *ℤ_comm, le_z, lt_z, ◌≤ℤ◌, ◌<ℤ◌, le_z_yes, lt_z_yes, clash_ℤ}
use lib.Dec.{eqb_refl}
use Rattle.whole.proofs.Polynomial.{is_z}
use Rattle.whole.proofs.Order.{nn_add, nn_mul, ps_add, ps_mul, ≤-of-<}

pub data Sgn : Type 0 where
  nn ps zr : Sgn

abbrev pub Sat : Sgn → ℤ → Type 0
Sat nn z = pos 0 ≤ℤ z
Sat ps z = pos 0 <ℤ z
Sat zr z = z ≡ pos 0

abbrev pub add_s : Sgn → Sgn → Sgn
add_s nn nn = nn
add_s nn ps = ps
add_s nn zr = nn
add_s ps t = ps
add_s zr t = t

abbrev pub mul_s : Sgn → Sgn → Sgn
mul_s nn nn = nn
mul_s nn ps = nn
mul_s nn zr = zr
mul_s ps t = t
mul_s zr t = zr

abbrev pub num_s : ℕ → Sgn
num_s zero = nn
num_s (suc n) = ps

abbrev pub dec_s : Sgn → Sgn
dec_s nn = nn
dec_s ps = nn
dec_s zr = zr

-- a constant that has not the sign that is known of it
abbrev pub wrong : Sgn → ℤ → Bool
wrong nn z = lt_z z (pos 0)
wrong ps z = le_z z (pos 0)
wrong zr z = not (is_z z)

-- ---- soundness

nn_pos : (n : ℕ) → pos 0 ≤ℤ pos n
nn_pos n = le_z_yes (le→leb 0 n zero-le)

pub add_s_ok : (s t : Sgn) (x y : ℤ) → Sat s x → Sat t y → Sat (add_s s t) (x +ℤ y)
add_s_ok nn nn x y p q = nn_add p q
add_s_ok nn ps x y p q = subst (λ z. pos 0 <ℤ z) (+ℤ_comm y x) (ps_add q p)
add_s_ok nn zr x y p q = subst (λ z. pos 0 ≤ℤ z) (sym (ap (λ w. x +ℤ w) q ∙ +ℤ_idr x)) p
add_s_ok ps nn x y p q = ps_add p q
add_s_ok ps ps x y p q = ps_add p (≤-of-< q)
add_s_ok ps zr x y p q = subst (λ z. pos 0 <ℤ z) (sym (ap (λ w. x +ℤ w) q ∙ +ℤ_idr x)) p
add_s_ok zr t x y p q = subst (λ z. Sat t z) (sym (ap (λ w. w +ℤ y) p ∙ +ℤ_idl y)) q

pub mul_zr : (x y : ℤ) → y ≡ pos 0 → x *ℤ y ≡ pos 0
mul_zr x y q = ap (λ w. x *ℤ w) q ∙ *ℤ-zero x

pub mul_s_ok : (s t : Sgn) (x y : ℤ) → Sat s x → Sat t y → Sat (mul_s s t) (x *ℤ y)
mul_s_ok nn nn x y p q = nn_mul p q
mul_s_ok nn ps x y p q = nn_mul p (≤-of-< q)
mul_s_ok nn zr x y p q = mul_zr x y q
mul_s_ok ps nn x y p q = nn_mul (≤-of-< p) q
mul_s_ok ps ps x y p q = ps_mul p q
mul_s_ok ps zr x y p q = mul_zr x y q
mul_s_ok zr t x y p q = *ℤ_comm x y ∙ mul_zr y x p

pub num_ok : (n : ℕ) → Sat (num_s n) (pos n)
num_ok zero = nn_pos 0
num_ok (suc n) = lt_z_yes (lt→ltb 0 (suc n) (e n))
  where
    e : (n : ℕ) → 0 < suc n
    e n = omega arith

pub wrong_ok : (s : Sgn) (z : ℤ) → T (wrong s z) → Sat s z → ⊥
wrong_ok nn z t k = clash_ℤ (lt_z_yes t) k
wrong_ok ps z t k = clash_ℤ k (le_z_yes t)
wrong_ok zr z t k = T_not (is_z z) t (subst (λ w. T (is_z w)) (sym k) (eqb_refl 0))

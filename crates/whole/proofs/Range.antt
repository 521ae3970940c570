-- Magnitudes of sums, products and quotients, and what they say of ranges.
--
-- `Near b z` (specs/Range.antt) is −b ≤ z ≤ b. Ranges add and multiply as the numbers do: from h : Near 100 x and k : Near 1000 y,
-- `near_add (near_mul h k) h : Near (100 * 1000 + 100) (x *ℤ y +ℤ x)`, and `near_le .. tt` for a wider range: the `tt` is the test that the one bound is at most the
-- other.
-- `within_says` and `says_within`: what the test of a range says.
-- Private: `difference`, `near_says`, `says_near`.
use Rattle.whole.proofs.Base.{◌≡◌, refl, ap, Bool, true, false, ◌&&◌, cond, List, ℕ, zero, suc, ◌+◌, ◌-◌, ◌*◌, ◌/◌, ◌≤◌, le_refl, le_trans, mul-le-mul, div-le_self, arith, T, ltb, leb, leb→le, le-leb, ltb-true, ℤ, pos, negsuc, neg_ℤ, nat_abs, ◌+ℤ◌, ◌-ℤ◌, ◌*ℤ◌, quot_z}
use borrow.Author.Tests.{leb-true}
use Rattle.whole.specs.Range.{at, Near, Within, within?}
use Rattle.whole.proofs.Test.{both_true, true_both}

-- ---- magnitudes

pub nat_abs_neg : (z : ℤ) → nat_abs (neg_ℤ z) ≡ nat_abs z
nat_abs_neg (pos zero) = refl
nat_abs_neg (pos (suc n)) = refl
nat_abs_neg (negsuc n) = refl

pub nat_abs_mul : (a b : ℤ) → nat_abs (a *ℤ b) ≡ nat_abs a * nat_abs b
nat_abs_mul (pos a) (pos b) = refl
nat_abs_mul (pos a) (negsuc b) = nat_abs_neg (pos (a * suc b))
nat_abs_mul (negsuc a) (pos b) = nat_abs_neg (pos (suc a * b))
nat_abs_mul (negsuc a) (negsuc b) = refl

-- a − b of two naturals, as `sub_ℕ` works it out
difference : (a b : ℕ) (t : Bool) → ltb a b ≡ t → nat_abs (cond t (negsuc (b - suc a)) (pos (a - b))) ≤ a + b
difference a b true e = omega (arith, ltb-true a b e)
difference a b false e = omega arith

pub nat_abs_add : (a b : ℤ) → nat_abs (a +ℤ b) ≤ nat_abs a + nat_abs b
nat_abs_add (pos a) (pos b) = le_refl (a + b)
nat_abs_add (pos a) (negsuc b) = difference a (suc b) (ltb a (suc b)) refl
nat_abs_add (negsuc a) (pos b) = omega (arith, difference b (suc a) (ltb b (suc a)) refl)
nat_abs_add (negsuc a) (negsuc b) = omega arith

pub nat_abs_quot : (a : ℤ) (g : ℕ) → nat_abs (quot_z a (pos g)) ≡ nat_abs a / g
nat_abs_quot (pos a) g = refl
nat_abs_quot (negsuc a) g = nat_abs_neg (pos (suc a / g))

pub nat_abs_zero : {z : ℤ} → nat_abs z ≡ 0 → z ≡ pos 0
nat_abs_zero {z = pos n} e = ap pos e
nat_abs_zero {z = negsuc n} e = absurd (omega arith)

-- ---- ranges

pub near_le : {a b : ℕ} {x : ℤ} → Near a x → T (leb a b) → Near b x
near_le {a} {b} h t = record { near = le_trans h.near (leb→le a b t) }

pub near_neg : {b : ℕ} {x : ℤ} → Near b x → Near b (neg_ℤ x)
near_neg {x = x} h = record { near = omega (arith, nat_abs_neg x, h.near) }

pub near_mul : {a b : ℕ} {x y : ℤ} → Near a x → Near b y → Near (a * b) (x *ℤ y)
near_mul {x = x} {y = y} h k = record { near = rw nat_abs_mul (mul-le-mul h.near k.near) }

pub near_add : {a b : ℕ} {x y : ℤ} → Near a x → Near b y → Near (a + b) (x +ℤ y)
near_add {x = x} {y = y} h k = record { near = omega (arith, nat_abs_add x y, h.near, k.near) }

pub near_sub : {a b : ℕ} {x y : ℤ} → Near a x → Near b y → Near (a + b) (x -ℤ y)
near_sub h k = near_add h (near_neg k)

pub near_quot : {b : ℕ} {x : ℤ} → Near b x → (g : ℕ) → Near b (quot_z x (pos g))
near_quot {x = x} h g = record { near = omega (arith, nat_abs_quot x g, div-le_self (nat_abs x) g, h.near) }

pub within_le : {a b : ℕ} {m : List ℤ} → Within a m → T (leb a b) → Within b m
within_le w t = record { n0 = near_le w.n0 t; n1 = near_le w.n1 t; n2 = near_le w.n2 t; n3 = near_le w.n3 t }

-- ---- the test on a range says so

near_says : (b : ℕ) (z : ℤ) → leb (nat_abs z) b ≡ true → Near b z
near_says b z e = record { near = leb-true (nat_abs z) b e }

says_near : {b : ℕ} {z : ℤ} → Near b z → leb (nat_abs z) b ≡ true
says_near {b} {z} h = le-leb (nat_abs z) b h.near

pub within_says : (b : ℕ) (m : List ℤ) → within? b m ≡ true → Within b m
unfolding within?
within_says b m e =
    let p = both_true (leb (nat_abs (at m 0)) b && leb (nat_abs (at m 1)) b && leb (nat_abs (at m 2)) b) (leb (nat_abs (at m 3)) b) e in
    let q = both_true (leb (nat_abs (at m 0)) b && leb (nat_abs (at m 1)) b) (leb (nat_abs (at m 2)) b) p.0 in
    let r = both_true (leb (nat_abs (at m 0)) b) (leb (nat_abs (at m 1)) b) q.0 in
    record { n0 = near_says b (at m 0) r.0; n1 = near_says b (at m 1) r.1; n2 = near_says b (at m 2) q.1; n3 = near_says b (at m 3) p.1 }

pub says_within : {b : ℕ} {m : List ℤ} → Within b m → within? b m ≡ true
unfolding within?
says_within h = true_both (true_both (true_both (says_near h.n0) (says_near h.n1)) (says_near h.n2)) (says_near h.n3)

-- Ranges of what `plane` computes, from the ranges of what it is given: if the entries of two matrices lie within a and b, those of their product lie within 2·a·b.
-- The crates above show by these what the functions require.
use Rattle.whole.proofs.Laws.{List, inl, inr, ℕ, suc, ◌+◌, ◌-◌, ◌*◌, ◌^◌, ◌≤◌, ◌<◌, ◌∣◌, arith, T, ltb, ℤ, nat_abs, ◌+ℤ◌, ◌*ℤ◌, Near, Within, gcd4, divided, Divides4, near_neg, near_mul, near_add, near_quot, gcd4_divides, gcd4_greatest}
use native.Mathlib.Nat as N
use Rattle.plane.specs.Fits.{Products}
use Rattle.plane.specs.Plane.{pseudoinverse_of, multiply_of, apply, image_of, cancel_of}

-- ---- what `determinant` asks

pub within_products : {b : ℕ} {m : List ℤ} → Within b m → T (ltb (b * b + b * b) (2 ^ 63)) → Products m
within_products {b} w t = record { a = b; b = b; n0 = w.n0; n1 = w.n1; n2 = w.n2; n3 = w.n3; small = t }

-- ---- ranges of results

pub pseudoinverse_within : {b : ℕ} {m : List ℤ} → Within b m → Within b (pseudoinverse_of m)
unfolding pseudoinverse_of
pseudoinverse_within w = record { n0 = w.n3; n1 = near_neg w.n1; n2 = near_neg w.n2; n3 = w.n0 }

-- a·x + b·y
dot_near : {s t : ℕ} {a b x y : ℤ} → Near s a → Near s b → Near t x → Near t y → Near (s * t + s * t) (a *ℤ x +ℤ b *ℤ y)
dot_near a b x y = near_add (near_mul a x) (near_mul b y)

pub multiply_within : {a b : ℕ} {m n : List ℤ} → Within a m → Within b n → Within (a * b + a * b) (multiply_of m n)
unfolding multiply_of
multiply_within v w = record {
  n0 = dot_near v.n0 v.n1 w.n0 w.n2;
  n1 = dot_near v.n0 v.n1 w.n1 w.n3;
  n2 = dot_near v.n2 v.n3 w.n0 w.n2;
  n3 = dot_near v.n2 v.n3 w.n1 w.n3;
}

pub image_within : {a b : ℕ} {m w : List ℤ} → Within a m → Within b w → Within (a * b + a * b) (image_of m w)
unfolding image_of apply
image_within v w = record {
  n0 = dot_near v.n0 v.n1 w.n0 w.n1;
  n1 = dot_near v.n2 v.n3 w.n0 w.n1;
  n2 = dot_near v.n0 v.n1 w.n2 w.n3;
  n3 = dot_near v.n2 v.n3 w.n2 w.n3;
}

pub divided_within : {b : ℕ} {m : List ℤ} → Within b m → (g : ℕ) → Within b (divided m g)
divided_within w g = record { n0 = near_quot w.n0 g; n1 = near_quot w.n1 g; n2 = near_quot w.n2 g; n3 = near_quot w.n3 g }

pub cancel_within : {b : ℕ} {m : List ℤ} → Within b m → Within b (cancel_of m)
unfolding cancel_of
cancel_within {m = m} w = divided_within w (gcd4 m)

-- the greatest common divisor lies within the entries' range: if it were farther from 0 than every entry that it divides, all four would be 0,
-- the number after it would divide them too, and so divide it
pub gcd4_within : {b : ℕ} {m : List ℤ} → Within b m → gcd4 m ≤ b
gcd4_within {b} {m} w = elim (N.eq-zero-or-pos (gcd4 m - b)) [ inl e ↦ omega arith | inr above ↦ absurd (falls (omega arith) (gcd4_divides m)) ]
  where
    after : {z : ℤ} → b < gcd4 m → gcd4 m ∣ nat_abs z → Near b z → suc (gcd4 m) ∣ nat_abs z
    after {z} above d h = elim (N.eq-zero-or-pos (nat_abs z)) [ inl e ↦ rw e (N.dvd-zero (suc (gcd4 m))) | inr p ↦ absurd (omega (arith, N.le_of_dvd p d, h.near)) ]

    falls : b < gcd4 m → Divides4 (gcd4 m) m → ⊥
    falls above v =
        let next : Divides4 (suc (gcd4 m)) m =
        record { d0 = after above v.d0 w.n0; d1 = after above v.d1 w.n1; d2 = after above v.d2 w.n2; d3 = after above v.d3 w.n3 } in
        omega (arith, N.le_of_dvd (omega arith) (gcd4_greatest next))

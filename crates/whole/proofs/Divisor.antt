-- The greatest common divisor, of two natural numbers and of four whole numbers.
--
-- specs/Divisor.antt defines it by Euclid's steps. Here: it divides both, every common divisor divides it, and Euclid's step as an equation.
-- Then the four entries of a matrix: divided by their greatest common divisor they have none but 1 (`reduced`), and no other divisor leaves that (`reduced_only`). `Times4 k n m` is k·n = m, entry by entry.
-- Private: the laws by the number of steps (`by_..`), and those of one entry (`sizes`, `up`, `down`).
use Rattle.whole.proofs.Base.{◌≡◌, sym, ◌∙◌, ap, subst, List, ℕ, zero, suc, ◌*◌, ◌/◌, ◌%◌, ◌≤◌, ◌<◌, ◌∣◌, arith, ℤ, pos, negsuc, neg_ℤ, nat_abs, ◌*ℤ◌, quot_z}
use native.Mathlib.Nat as N
use Rattle.whole.specs.Range.{at}
use Rattle.whole.specs.Divisor.{gcd_by, gcd, gcd4, divided, Divides4}
use Rattle.whole.proofs.Ring.{mul_neg}
use Rattle.whole.proofs.Range.{nat_abs_mul, nat_abs_zero}

-- ---- two natural numbers

falls : (k a b : ℕ) → suc b ≤ suc k → a % suc b ≤ k
falls k a b p = omega (arith, N.mod-lt a {m = suc b} (omega arith))

by_divides : (k a b : ℕ) → b ≤ k → (gcd_by k a b ∣ a) × (gcd_by k a b ∣ b)
unfolding gcd_by
by_divides zero a b p = (N.dvd_refl a, let e : b ≡ 0 = omega arith in rw e (N.dvd-zero a))
by_divides (suc k) a zero p = (N.dvd_refl a, N.dvd-zero a)
by_divides (suc k) a (suc b) p =
    let ih = by_divides k (suc b) (a % suc b) (falls k a b p) in
    ((N.dvd-mod_iff (gcd_by k (suc b) (a % suc b)) ih.0).0 ih.1, ih.0)

by_greatest : (k a b d : ℕ) → d ∣ a → d ∣ b → d ∣ gcd_by k a b
unfolding gcd_by
by_greatest zero a b d p q = p
by_greatest (suc k) a zero d p q = p
by_greatest (suc k) a (suc b) d p q = by_greatest k (suc b) (a % suc b) d q ((N.dvd-mod_iff d q).1 p)

pub gcd_divides_left : (a b : ℕ) → gcd a b ∣ a
unfolding gcd
gcd_divides_left a b = (by_divides b a b (N.le_refl b)).0

pub gcd_divides_right : (a b : ℕ) → gcd a b ∣ b
unfolding gcd
gcd_divides_right a b = (by_divides b a b (N.le_refl b)).1

pub gcd_greatest : (a b d : ℕ) → d ∣ a → d ∣ b → d ∣ gcd a b
unfolding gcd
gcd_greatest a b d = by_greatest b a b d

-- Euclid's end and his step
pub gcd_end : (a b : ℕ) → b ≡ 0 → gcd a b ≡ a
unfolding gcd gcd_by
gcd_end a b e = rw e

pub gcd_step : (a b : ℕ) → gcd b (a % b) ≡ gcd a b
gcd_step a b = N.dvd_antisymm
    (gcd_greatest a b (gcd b (a % b)) ((N.dvd-mod_iff (gcd b (a % b)) (gcd_divides_left b (a % b))).0 (gcd_divides_right b (a % b))) (gcd_divides_left b (a % b)))
    (gcd_greatest b (a % b) (gcd a b) (gcd_divides_right a b) ((N.dvd-mod_iff (gcd a b) (gcd_divides_right a b)).1 (gcd_divides_left a b)))

-- ---- four whole numbers

-- an exact quotient
pub quot_exact : (a : ℤ) (g : ℕ) → g ∣ nat_abs a → pos g *ℤ quot_z a (pos g) ≡ a
quot_exact (pos a) g p = ap pos (N.mul-div_cancel' g p)
quot_exact (negsuc a) g p = mul_neg (pos g) (pos (suc a / g)) ∙ ap (λ (n : ℕ). neg_ℤ (pos n)) (N.mul-div_cancel' g p)

pub gcd4_divides : (m : List ℤ) → Divides4 (gcd4 m) m
unfolding gcd4
gcd4_divides m =
    let p = gcd (nat_abs (at m 0)) (nat_abs (at m 1)) in
    let q = gcd (nat_abs (at m 2)) (nat_abs (at m 3)) in
    let l = gcd_divides_left p q in
    let r = gcd_divides_right p q in
    record {
      d0 = N.dvd_trans (gcd p q) l (gcd_divides_left (nat_abs (at m 0)) (nat_abs (at m 1)));
      d1 = N.dvd_trans (gcd p q) l (gcd_divides_right (nat_abs (at m 0)) (nat_abs (at m 1)));
      d2 = N.dvd_trans (gcd p q) r (gcd_divides_left (nat_abs (at m 2)) (nat_abs (at m 3)));
      d3 = N.dvd_trans (gcd p q) r (gcd_divides_right (nat_abs (at m 2)) (nat_abs (at m 3)));
    }

pub gcd4_greatest : {k : ℕ} {m : List ℤ} → Divides4 k m → k ∣ gcd4 m
unfolding gcd4
gcd4_greatest {k} {m} v =
    gcd_greatest (gcd (nat_abs (at m 0)) (nat_abs (at m 1))) (gcd (nat_abs (at m 2)) (nat_abs (at m 3))) k
    (gcd_greatest (nat_abs (at m 0)) (nat_abs (at m 1)) k v.d0 v.d1) (gcd_greatest (nat_abs (at m 2)) (nat_abs (at m 3)) k v.d2 v.d3)

-- it is 0 only where all four are
pub gcd4_zero : (m : List ℤ) → gcd4 m ≡ 0 → (at m 0 ≡ pos 0) × (at m 1 ≡ pos 0) × (at m 2 ≡ pos 0) × (at m 3 ≡ pos 0)
gcd4_zero m e =
    let v = gcd4_divides m in
    (nought v.d0, nought v.d1, nought v.d2, nought v.d3)
  where
    nought : {z : ℤ} → gcd4 m ∣ nat_abs z → z ≡ pos 0
    nought {z} d = nat_abs_zero ((N.zero-dvd).0 (subst (λ (g : ℕ). g ∣ nat_abs z) e d))

-- k times x is y; and k times the four numbers of n are those of m
pub record Times (k : ℕ) (x y : ℤ) : Type 0 where
  pub times : pos k *ℤ x ≡ y

pub record Times4 (k : ℕ) (n m : List ℤ) : Type 0 where
  pub t0 : Times k (at n 0) (at m 0)
  pub t1 : Times k (at n 1) (at m 1)
  pub t2 : Times k (at n 2) (at m 2)
  pub t3 : Times k (at n 3) (at m 3)

pub divided_times : {g : ℕ} {m : List ℤ} → Divides4 g m → Times4 g (divided m g) m
divided_times {g} {m} v = record {
  t0 = record { times = quot_exact (at m 0) g v.d0 };
  t1 = record { times = quot_exact (at m 1) g v.d1 };
  t2 = record { times = quot_exact (at m 2) g v.d2 };
  t3 = record { times = quot_exact (at m 3) g v.d3 };
}

-- magnitudes multiply, so a divisor of x, k times as large, divides y; and back
sizes : {k : ℕ} {x y : ℤ} → Times k x y → k * nat_abs x ≡ nat_abs y
sizes {k} {x} t = sym (nat_abs_mul (pos k) x) ∙ ap nat_abs t.times

up : {k : ℕ} {x y : ℤ} (j : ℕ) → Times k x y → j ∣ nat_abs x → k * j ∣ nat_abs y
up {k} j t d = subst (λ (n : ℕ). k * j ∣ n) (sizes t) (N.mul-dvd-mul_left j k d)

down : {k : ℕ} {x y : ℤ} (j : ℕ) → 0 < k → Times k x y → k * j ∣ nat_abs y → j ∣ nat_abs x
down {k} j p t d = N.dvd_of_mul-dvd-mul_left j p (subst (λ (n : ℕ). k * j ∣ n) (sym (sizes t)) d)

pub up4 : {k : ℕ} {n m : List ℤ} (j : ℕ) → Times4 k n m → Divides4 j n → Divides4 (k * j) m
up4 j t v = record { d0 = up j t.t0 v.d0; d1 = up j t.t1 v.d1; d2 = up j t.t2 v.d2; d3 = up j t.t3 v.d3 }

pub down4 : {k : ℕ} {n m : List ℤ} (j : ℕ) → 0 < k → Times4 k n m → Divides4 (k * j) m → Divides4 j n
down4 j p t v = record { d0 = down j p t.t0 v.d0; d1 = down j p t.t1 v.d1; d2 = down j p t.t2 v.d2; d3 = down j p t.t3 v.d3 }

pub one4 : (n : List ℤ) → Divides4 1 n
one4 n = record { d0 = N.one-dvd (nat_abs (at n 0)); d1 = N.one-dvd (nat_abs (at n 1)); d2 = N.one-dvd (nat_abs (at n 2)); d3 = N.one-dvd (nat_abs (at n 3)) }

pub gcd4_times : {k : ℕ} {n m : List ℤ} → 0 < k → Times4 k n m → gcd4 m ≡ k * gcd4 n
gcd4_times {k} {n} {m} p t =
    let kg : k ∣ gcd4 m = subst (λ (j : ℕ). j ∣ gcd4 m) (N.mul-one k) (gcd4_greatest (up4 1 t (one4 n))) in
    let e : k * (gcd4 m / k) ≡ gcd4 m = N.mul-div_cancel' k kg in
    N.dvd_antisymm
    (subst (λ (j : ℕ). j ∣ k * gcd4 n) e
    (N.mul-dvd-mul_left (gcd4 m / k) k (gcd4_greatest (down4 (gcd4 m / k) p t (subst (λ (j : ℕ). Divides4 j m) (sym e) (gcd4_divides m))))))
    (gcd4_greatest (up4 (gcd4 n) t (gcd4_divides n)))

-- divided by their greatest common divisor, they have none but 1
pub reduced : (m : List ℤ) → 0 < gcd4 m → gcd4 (divided m (gcd4 m)) ≡ 1
reduced m p =
    let g = gcd4 m in
    N.eq_of_mul-eq-mul_left g p (gcd4 (divided m g)) 1 (sym (gcd4_times p (divided_times (gcd4_divides m))) ∙ sym (N.mul-one g))

-- and the divisor that leaves none but 1 is the greatest
pub reduced_only : {k : ℕ} {n m : List ℤ} → 0 < k → Times4 k n m → gcd4 n ≡ 1 → k ≡ gcd4 m
reduced_only {k} p t e = sym (N.mul-one k) ∙ ap (λ (j : ℕ). k * j) (sym e) ∙ sym (gcd4_times p t)

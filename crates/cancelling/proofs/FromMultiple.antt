-- The divisor of a matrix m, from a number d that it divides. Where d is 1, so is the divisor; where d is 2, it is 2 if all four entries are even, and else 1; and of any d it
-- is gcd(|m3|, gcd(|m2|, gcd(|m1|, gcd(|m0|, d)))), each entry with a divisor of d: that number divides the four, and whatever divides the four and d divides it.
use Rattle.whole.proofs.Laws.{◌≡◌, sym, subst, List, ℕ, ◌≤◌, ◌<◌, ◌∣◌, arith, ℤ, nat_abs, at, gcd, gcd4, Divides4, gcd_divides_left, gcd_divides_right, gcd_greatest, gcd4_divides, gcd4_greatest}
use native.Mathlib.Nat as N

-- ---- of 1, and of 2

pub of_one : (m : List ℤ) {d : ℕ} → gcd4 m ∣ d → d ≡ 1 → 1 ≡ gcd4 m
of_one m p e = sym (N.eq-one_of_dvd-one (subst (λ (k : ℕ). gcd4 m ∣ k) e p))

pub of_even : {m : List ℤ} → gcd4 m ∣ 2 → Divides4 2 m → 2 ≡ gcd4 m
of_even p v = N.dvd_antisymm (gcd4_greatest v) p

pub of_odd : {m : List ℤ} → gcd4 m ∣ 2 → (Divides4 2 m → ⊥) → 1 ≡ gcd4 m
of_odd {m} p odd = one (gcd4 m) (N.pos_of_dvd_of_pos p (omega arith)) (N.le_of_dvd (omega arith) p) (λ e. odd (subst (λ (k : ℕ). Divides4 k m) e (gcd4_divides m)))
  where
    one : (g : ℕ) → 0 < g → g ≤ 2 → (g ≡ 2 → ⊥) → 1 ≡ g
    one g p q f = omega (arith, f)

-- ---- of any number

abbrev pub shared_by : List ℤ → ℕ → ℕ
shared_by m d = gcd (nat_abs (at m 3)) (gcd (nat_abs (at m 2)) (gcd (nat_abs (at m 1)) (gcd (nat_abs (at m 0)) d)))

shared_divides : (m : List ℤ) (d : ℕ) → Divides4 (shared_by m d) m
shared_divides m d =
    let s0 = gcd (nat_abs (at m 0)) d in
    let s1 = gcd (nat_abs (at m 1)) s0 in
    let s2 = gcd (nat_abs (at m 2)) s1 in
    let in2 = gcd_divides_right (nat_abs (at m 3)) s2 in
    let in1 = N.dvd_trans (shared_by m d) in2 (gcd_divides_right (nat_abs (at m 2)) s1) in
    let in0 = N.dvd_trans (shared_by m d) in1 (gcd_divides_right (nat_abs (at m 1)) s0) in
    record {
      d0 = N.dvd_trans (shared_by m d) in0 (gcd_divides_left (nat_abs (at m 0)) d);
      d1 = N.dvd_trans (shared_by m d) in1 (gcd_divides_left (nat_abs (at m 1)) s0);
      d2 = N.dvd_trans (shared_by m d) in2 (gcd_divides_left (nat_abs (at m 2)) s1);
      d3 = gcd_divides_left (nat_abs (at m 3)) s2;
    }

shared_greatest : {k : ℕ} (m : List ℤ) (d : ℕ) → Divides4 k m → k ∣ d → k ∣ shared_by m d
shared_greatest {k} m d v p =
    let s0 = gcd (nat_abs (at m 0)) d in
    let s1 = gcd (nat_abs (at m 1)) s0 in
    let s2 = gcd (nat_abs (at m 2)) s1 in
    gcd_greatest (nat_abs (at m 3)) s2 k v.d3 (gcd_greatest (nat_abs (at m 2)) s1 k v.d2
    (gcd_greatest (nat_abs (at m 1)) s0 k v.d1 (gcd_greatest (nat_abs (at m 0)) d k v.d0 p)))

shared_divides_d : (m : List ℤ) (d : ℕ) → shared_by m d ∣ d
shared_divides_d m d =
    let s0 = gcd (nat_abs (at m 0)) d in
    let s1 = gcd (nat_abs (at m 1)) s0 in
    let s2 = gcd (nat_abs (at m 2)) s1 in
    let in1 = N.dvd_trans (shared_by m d) (gcd_divides_right (nat_abs (at m 3)) s2) (gcd_divides_right (nat_abs (at m 2)) s1) in
    N.dvd_trans (shared_by m d) (N.dvd_trans (shared_by m d) in1 (gcd_divides_right (nat_abs (at m 1)) s0)) (gcd_divides_right (nat_abs (at m 0)) d)

pub dvd4_trans : {k g : ℕ} {m : List ℤ} → k ∣ g → Divides4 g m → Divides4 k m
dvd4_trans {k} p v = record { d0 = N.dvd_trans k p v.d0; d1 = N.dvd_trans k p v.d1; d2 = N.dvd_trans k p v.d2; d3 = N.dvd_trans k p v.d3 }

-- it is the greatest common divisor of the four and d
pub shared_is : (m : List ℤ) (d : ℕ) → shared_by m d ≡ gcd (gcd4 m) d
shared_is m d =
    N.dvd_antisymm
    (gcd_greatest (gcd4 m) d (shared_by m d) (gcd4_greatest (shared_divides m d)) (shared_divides_d m d))
    (shared_greatest m d (dvd4_trans (gcd_divides_left (gcd4 m) d) (gcd4_divides m)) (gcd_divides_right (gcd4 m) d))

-- where the divisor of the four divides d, it is that
pub of_multiple : (m : List ℤ) (d : ℕ) → gcd4 m ∣ d → gcd (gcd4 m) d ≡ gcd4 m
of_multiple m d p = N.dvd_antisymm (gcd_divides_left (gcd4 m) d) (gcd_greatest (gcd4 m) d (gcd4 m) (N.dvd_refl (gcd4 m)) p)

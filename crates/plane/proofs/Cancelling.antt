-- "To cancel a matrix, divide it by the greatest common divisor of the four entries. Signs stay." (document 01)
-- The divisor times the cancelled matrix is the matrix. The cancelled matrix is in lowest terms, and no other in lowest terms makes the matrix by a number above 0; it sends
-- points to the same points and intervals to the same intervals; its determinant and each of its entries keep their sign.
-- The argument: a matrix of determinant above 0 has an entry that is not 0, so the divisor is above 0 and goes out of every entry (`Divisor` of the crate `whole`). What
-- follows is said of any n and m with k·n = m entry by entry, k above 0 (`Times4 k n m`), of which a matrix and its cancelled form are one case.
use Rattle.whole.proofs.Laws.{◌≡◌, refl, sym, ◌∙◌, ap, subst, List, ℕ, zero, suc, ◌*◌, ◌<◌, arith, length, ℤ, pos, ◌*ℤ◌, ◌<ℤ◌, at, gcd4, divided, nat_abs, quot_z, one-dvd, quot_exact, ◌⊖◌, ◌⊗◌, #, ◌≗◌, law, ◌≺◌, ◌≈◌, never, h, ◌⊡◌, linear, ◌&◌, ◌⇒◌, ◌from◌, claim, cancel_pos, up<, Times, Times4, gcd4_divides, gcd4_zero, divided_times, reduced, reduced_only}
use Rattle.plane.specs.Plane.{Pair, SamePoint, apply, determinant_of, image_of, cancel_of}
use Rattle.plane.specs.Scale.{entries, scale_of, DetAbove, SameSign, SameSigns, SameEnds}
use Rattle.plane.proofs.SameSign.{grown, sign_back, square_above, above_not_0}
use Rattle.plane.proofs.Identities.{four, four_equal, determinant_scale}
use Rattle.plane.proofs.Points.{same_scaled}
use Rattle.plane.proofs.Ends.{ends_scaled}

-- ---- two matrices, the second k times the first

pub times_entries : {k : ℕ} {n m : List ℤ} → Times4 k n m → scale_of (pos k) n ≡ entries m
unfolding scale_of
times_entries t = four_equal t.t0.times t.t1.times t.t2.times t.t3.times

pub entries_times : (k : ℕ) (n m : List ℤ) → scale_of (pos k) n ≡ entries m → Times4 k n m
unfolding scale_of
entries_times k n m e = record {
  t0 = record { times = λ i. at (e i) 0 };
  t1 = record { times = λ i. at (e i) 1 };
  t2 = record { times = λ i. at (e i) 2 };
  t3 = record { times = λ i. at (e i) 3 };
}

pub scale_times : (k : ℕ) (n : List ℤ) → Times4 k n (scale_of (pos k) n)
unfolding scale_of
scale_times k n = entries_times k n (scale_of (pos k) n) refl

not_0 : {k : ℕ} → 0 < k → pos k ≡ pos 0 → ⊥
not_0 p = above_not_0 (up< p)

pub same_times : {k : ℕ} {n m : List ℤ} → 0 < k → Times4 k n m → (z : Pair) → SamePoint (apply n z) (apply m z)
unfolding apply
same_times {k} {n} {m} p t z = subst (λ (x : List ℤ). SamePoint (apply n z) (apply x z)) (times_entries t) (same_scaled (pos k) n z (not_0 p))

pub ends_times : {k : ℕ} {n m : List ℤ} → 0 < k → Times4 k n m → (w : List ℤ) → SameEnds (image_of n w) (image_of m w)
unfolding apply image_of
ends_times {k} {n} {m} p t w = subst (λ (x : List ℤ). SameEnds (image_of n w) (image_of x w)) (times_entries t) (ends_scaled (pos k) n w (not_0 p))

pub determinant_times : {k : ℕ} {n m : List ℤ} → Times4 k n m → determinant_of m ≡ pos (k * k) *ℤ determinant_of n
unfolding determinant_of
determinant_times {k} {n} {m} t = sym (ap determinant_of (times_entries t)) ∙ determinant_scale (pos k) n

pub sign_times : {k : ℕ} {x y : ℤ} → 0 < k → Times k x y → SameSign x y
sign_times {k} p t = grown (pos k) (up< p) t.times

pub signs_times : {k : ℕ} {n m : List ℤ} → 0 < k → Times4 k n m → SameSigns n m
signs_times p t = record { s0 = sign_times p t.t0; s1 = sign_times p t.t1; s2 = sign_times p t.t2; s3 = sign_times p t.t3 }

pub signs_back : {m n : List ℤ} → SameSigns m n → SameSigns n m
signs_back s = record { s0 = sign_back s.s0; s1 = sign_back s.s1; s2 = sign_back s.s2; s3 = sign_back s.s3 }

pub determinant_sign : {k : ℕ} {n m : List ℤ} → 0 < k → Times4 k n m → SameSign (determinant_of n) (determinant_of m)
determinant_sign {k} p t = grown (pos (k * k)) (square_above (pos k) (not_0 p)) (sym (determinant_times t))

-- k·n determines n, if k is above 0
pub times_only : {k : ℕ} {n l m : List ℤ} → 0 < k → Times4 k n m → Times4 k l m → entries n ≡ entries l
times_only {k} p s t = four_equal (only s.t0 t.t0) (only s.t1 t.t1) (only s.t2 t.t2) (only s.t3 t.t3)
  where
    only : {x y z : ℤ} → Times k x z → Times k y z → x ≡ y
    only {x} {y} a b = cancel_pos (pos k) x y (up< p) (a.times ∙ sym b.times)

-- ---- a matrix and its cancelled form

pub divisor_above : {m : List ℤ} → DetAbove m → 0 < gcd4 m
unfolding determinant_of
divisor_above {m} k = above (gcd4 m) refl
  where
    above : (g : ℕ) → gcd4 m ≡ g → 0 < g
    above zero e =
        let z = gcd4_zero m e in
        absurd (claim 4 (λ a b c d. # 0 ≺ a ⊗ d ⊖ b ⊗ c ⇒ a ≈ # 0 ⇒ b ≈ # 0 ⇒ never from linear & d ⊡ h 2 & c ⊡ h 3) tt
        (at m 0) (at m 1) (at m 2) (at m 3) k.above z.0 z.1)
    above (suc g) e = omega arith

pub length_cancel : (m : List ℤ) → length (cancel_of m) ≡ 4
unfolding cancel_of
length_cancel m = refl

pub cancel_times : (m : List ℤ) → Times4 (gcd4 m) (cancel_of m) m
unfolding cancel_of
cancel_times m = divided_times (gcd4_divides m)

pub cancel_lowest : (m : List ℤ) → 0 < gcd4 m → gcd4 (cancel_of m) ≡ 1
unfolding cancel_of
cancel_lowest m = reduced m

pub cancel_det_above : {m : List ℤ} → DetAbove m → DetAbove (cancel_of m)
cancel_det_above {m} k = record { above = (sign_back (determinant_sign (divisor_above k) (cancel_times m))).above k.above }

-- there is no other: whatever is in lowest terms and makes m by a number above 0 is m cancelled
pub cancel_only : {k : ℕ} {n m : List ℤ} → 0 < k → Times4 k n m → gcd4 n ≡ 1 → entries n ≡ cancel_of m
unfolding cancel_of
cancel_only {m = m} p t e = times_only p t (subst (λ (j : ℕ). Times4 j (cancel_of m) m) (sym (reduced_only p t e)) (cancel_times m))

pub cancel_only_four : {k : ℕ} {n m : List ℤ} → length n ≡ 4 → 0 < k → Times4 k n m → gcd4 n ≡ 1 → n ≡ cancel_of m
cancel_only_four {n = n} f p t e = four n f ∙ cancel_only p t e

-- what is in lowest terms stays as it is
by_one : (z : ℤ) → z ≡ quot_z z (pos 1)
by_one z = sym (quot_exact z 1 (one-dvd (nat_abs z))) ∙ law 1 (λ x. # 1 ⊗ x ≗ x) tt (quot_z z (pos 1))

pub divided_by_one : (m : List ℤ) → length m ≡ 4 → {g : ℕ} → g ≡ 1 → m ≡ divided m g
divided_by_one m f e = four m f ∙ four_equal (by_one (at m 0)) (by_one (at m 1)) (by_one (at m 2)) (by_one (at m 3)) ∙ ap (divided m) (sym e)

pub cancel_kept : (m : List ℤ) → length m ≡ 4 → gcd4 m ≡ 1 → m ≡ cancel_of m
unfolding cancel_of
cancel_kept m f e = divided_by_one m f e

-- ---- all of it

pub record CancelSays (m : List ℤ) : Type 0 where
  pub divisor : 0 < gcd4 m
  pub four_long : length (cancel_of m) ≡ 4
  pub lowest : gcd4 (cancel_of m) ≡ 1
  pub times : Times4 (gcd4 m) (cancel_of m) m
  pub scaled : scale_of (pos (gcd4 m)) (cancel_of m) ≡ entries m
  pub determinant : determinant_of m ≡ pos (gcd4 m * gcd4 m) *ℤ determinant_of (cancel_of m)
  pub keeps : DetAbove (cancel_of m)
  pub signs : SameSigns m (cancel_of m)
  pub same : (z : Pair) → SamePoint (apply (cancel_of m) z) (apply m z)
  pub ends : (w : List ℤ) → SameEnds (image_of (cancel_of m) w) (image_of m w)
  pub only : (k : ℕ) (n : List ℤ) → length n ≡ 4 → 0 < k → Times4 k n m → gcd4 n ≡ 1 → n ≡ cancel_of m

pub cancel_says : (m : List ℤ) → pos 0 <ℤ determinant_of m → CancelSays m
cancel_says m d =
    let k : DetAbove m = record { above = d } in
    let p = divisor_above k in
    let t = cancel_times m in
    record {
      divisor = p;
      four_long = length_cancel m;
      lowest = cancel_lowest m p;
      times = t;
      scaled = times_entries t;
      determinant = determinant_times t;
      keeps = cancel_det_above k;
      signs = signs_back (signs_times p t);
      same = same_times p t;
      ends = ends_times p t;
      only = λ j n f q s e. cancel_only_four f q s e;
    }

-- The divisor of a step divides the determinant of the step's digit. A step makes X·F_held, or pseudoinverse(G_b)·X, of a state's matrix X, which is in lowest terms, and
-- cancels it (document 01): "To cancel a matrix, divide it by the greatest common divisor of the four entries." So that divisor need not be looked for among all numbers.
-- The argument: for Y = X·F, Y·pseudoinverse(F) = det F·X; for Y = pseudoinverse(G)·X, G·Y = det G·X. What divides Y, Y = k·Y', goes through either product. So it divides
-- det F·X, or det G·X, and the greatest common divisor of that, which is det F, or det G, times the one of X, and this is 1.
-- Private: `multiple`, `lowered`, `size`, `gcd4_scale`, `of_lowest`.
use Rattle.whole.proofs.Laws.{◌≡◌, sym, ◌∙◌, ap, subst, List, ℕ, ◌*◌, ◌<◌, ◌∣◌, ℤ, pos, nat_abs, ◌<ℤ◌, ≤-of-<, down<, gcd4, divided, Divides4, gcd4_divides, gcd4_greatest, gcd4_times, Times4, up4, one4, divided_times}
use native.Mathlib.Nat.{mul-one}
use lib.Signed.{pos-nat_abs, yes_non_neg}
use Rattle.plane.specs.Plane.{determinant_of, pseudoinverse_of, multiply_of}
use Rattle.plane.specs.Scale.{entries, scale_of, identity_of}
use Rattle.plane.proofs.Identities.{multiply_assoc, multiply_scale_left, multiply_scale_right, multiply_identity_left, multiply_identity_right, scale_entries, pseudoinverse_left, pseudoinverse_right, multiply_pseudoinverse}
use Rattle.plane.proofs.Cancelling.{times_entries, scale_times}

-- ---- a divisor goes through a product

-- k divides k·n
multiple : (k : ℕ) (n : List ℤ) → Divides4 k (scale_of (pos k) n)
multiple k n = subst (λ (j : ℕ). Divides4 j (scale_of (pos k) n)) (mul-one k) (up4 1 (scale_times k n) (one4 n))

-- what k divides is k times something
lowered : {k : ℕ} {y : List ℤ} → Divides4 k y → scale_of (pos k) (divided y k) ≡ entries y
lowered v = times_entries (divided_times v)

pub left_divides : {k : ℕ} {y : List ℤ} (n : List ℤ) → Divides4 k y → Divides4 k (multiply_of y n)
unfolding multiply_of
left_divides {k} {y} n v =
    subst (Divides4 k) (sym (multiply_scale_left (pos k) (divided y k) n) ∙ ap (λ (m : List ℤ). multiply_of m n) (lowered v)) (multiple k (multiply_of (divided y k) n))

pub right_divides : {k : ℕ} {y : List ℤ} (m : List ℤ) → Divides4 k y → Divides4 k (multiply_of m y)
unfolding multiply_of
right_divides {k} {y} m v =
    subst (Divides4 k) (sym (multiply_scale_right (pos k) m (divided y k)) ∙ ap (multiply_of m) (lowered v)) (multiple k (multiply_of m (divided y k)))

-- ---- a determinant above 0, as a natural number

module _ {d : ℤ} (p : pos 0 <ℤ d) where
  size : pos (nat_abs d) ≡ d
  size = pos-nat_abs d (yes_non_neg (≤-of-< p))

  pub size_above : 0 < nat_abs d
  size_above = down< (subst (λ (z : ℤ). pos 0 <ℤ z) (sym size) p)

  pub times_above : (x : List ℤ) → Times4 (nat_abs d) x (scale_of d x)
  times_above x = subst (λ (e : ℤ). Times4 (nat_abs d) x (scale_of e x)) size (scale_times (nat_abs d) x)

  -- the greatest common divisor of d·x is d times that of x
  gcd4_scale : (x : List ℤ) → gcd4 (scale_of d x) ≡ nat_abs d * gcd4 x
  gcd4_scale x = gcd4_times size_above (times_above x)

  of_lowest : {k : ℕ} (x : List ℤ) → gcd4 x ≡ 1 → Divides4 k (scale_of d x) → k ∣ nat_abs d
  of_lowest {k} x one v = subst (λ (n : ℕ). k ∣ n) (gcd4_scale x ∙ ap (λ (n : ℕ). nat_abs d * n) one ∙ mul-one (nat_abs d)) (gcd4_greatest v)

-- ---- the divisor of a step

-- (x·f)·pseudoinverse(f) = det f·x
pub undone : (x f : List ℤ) → multiply_of (multiply_of x f) (pseudoinverse_of f) ≡ scale_of (determinant_of f) x
undone x f =
    multiply_assoc x f (pseudoinverse_of f) ∙ ap (multiply_of x) (pseudoinverse_right f) ∙ multiply_scale_right (determinant_of f) x identity_of ∙
    ap (scale_of (determinant_of f)) (multiply_identity_right x) ∙ scale_entries (determinant_of f) x

-- pseudoinverse(f)·(f·x) = det f·x
pub undone_left : (f x : List ℤ) → multiply_of (pseudoinverse_of f) (multiply_of f x) ≡ scale_of (determinant_of f) x
undone_left f x =
    sym (multiply_assoc (pseudoinverse_of f) f x) ∙ ap (λ (m : List ℤ). multiply_of m x) (pseudoinverse_left f) ∙ multiply_scale_left (determinant_of f) identity_of x ∙
    ap (scale_of (determinant_of f)) (multiply_identity_left x) ∙ scale_entries (determinant_of f) x

-- "X becomes X·F_held, cancelled"
pub divisor_divides : (x f : List ℤ) → gcd4 x ≡ 1 → pos 0 <ℤ determinant_of f → gcd4 (multiply_of x f) ∣ nat_abs (determinant_of f)
divisor_divides x f one p =
    let y = multiply_of x f in
    of_lowest p x one (subst (Divides4 (gcd4 y)) (undone x f) (left_divides (pseudoinverse_of f) (gcd4_divides y)))

-- "X becomes pseudoinverse(G_b)·X, cancelled"
pub divisor_divides_given : (g x : List ℤ) → gcd4 x ≡ 1 → pos 0 <ℤ determinant_of g → gcd4 (multiply_of (pseudoinverse_of g) x) ∣ nat_abs (determinant_of g)
divisor_divides_given g x one p =
    let y = multiply_of (pseudoinverse_of g) x in
    of_lowest p x one (subst (Divides4 (gcd4 y)) (multiply_pseudoinverse g x) (right_divides g (gcd4_divides y)))

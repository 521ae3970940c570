-- What a step's product is cancelled by: the determinant of its digit, as a word; and where that is 1, nothing is cancelled.
use Rattle.whole.proofs.Laws.{◌≡◌, sym, ◌∙◌, ap, subst, List, ℕ, ◌∣◌, length, ℤ, pos, nat_abs, ◌<ℤ◌, ≤-of-<, gcd4, held, Fits, ok_back, unsigned_ok}
use lib.Dec.{T}
use lib.Signed.{non_neg}
use native.Mathlib.Nat.{eq-one_of_dvd-one}
use mir.Syntax.{w64}
use mir.Val as word
use Rattle.plane.proofs.Laws.{cancel_of, cancel_kept}

-- the word d that holds the determinant z of a digit, which is above 0, as an unsigned number
module _ {z d : ℤ} (above : pos 0 <ℤ z) (fits : Fits d) (e : d ≡ z) where
  pub cast_ok : T (non_neg (held d)) × word.Fits w64 (nat_abs (held d))
  cast_ok = unsigned_ok (record { sfits = fits }) (≤-of-< (subst (λ (z : ℤ). pos 0 <ℤ z) (sym e) above))

  pub size_held : nat_abs z ≡ nat_abs (held d)
  size_held = sym (ap nat_abs (ok_back fits ∙ e))

-- a product whose divisor divides 1
pub nothing_cancelled : (m : List ℤ) {d : ℕ} → length m ≡ 4 → gcd4 m ∣ d → d ≡ 1 → (1 ≡ gcd4 m) × (m ≡ cancel_of m)
nothing_cancelled m four p e = let one = eq-one_of_dvd-one (subst (λ (k : ℕ). gcd4 m ∣ k) e p) in (sym one, cancel_kept m four one)

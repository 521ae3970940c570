-- A matrix cancelled, from its divisor: "To cancel a matrix, divide it by the greatest common divisor of the four entries. Signs stay." (document 01)
-- `divides` is what `quotients` asks of a number that is the divisor, `cancelled` what its quotients are, and `kept` says that a matrix whose divisor is 1 stays as it is.
use Rattle.whole.proofs.Laws.{◌≡◌, sym, ◌∙◌, ap, List, ℕ, ◌<◌, arith, length, ℤ, Within, gcd4, divided, Divides4, gcd4_divides}
use Rattle.plane.proofs.Laws.{cancel_of, cancel_kept, gcd4_within}

pub divides : (m : List ℤ) {g : ℕ} → Within 200000000000 m → 0 < gcd4 m → g ≡ gcd4 m → (Divides4 g m) × (0 < g) × (g < 9223372036854775808)
divides m w p e = rw e (gcd4_divides m, p, omega (arith, gcd4_within w))

pub cancelled : (m : List ℤ) {g : ℕ} {q : List ℤ} → g ≡ gcd4 m → q ≡ divided m g → (g ≡ gcd4 m) × (q ≡ cancel_of m)
unfolding cancel_of
cancelled m e q = (e, q ∙ ap (divided m) e)

pub kept : (m : List ℤ) → length m ≡ 4 → 1 ≡ gcd4 m → (1 ≡ gcd4 m) × (m ≡ cancel_of m)
kept m f e = (e, cancel_kept m f (sym e))

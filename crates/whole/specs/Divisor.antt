-- The greatest common divisor, as the contracts mean it: of two natural numbers by Euclid's remainder step, and of the four numbers of a matrix; and
-- what it is to divide four numbers, or one, by a number.
--
-- gcd 12 18 goes 12 18, 18 12, 12 6, 6 0, and is 6; `gcd4` of [4, −6, 0, 10] is 2, and `divided` of it by 2 is [2, −3, 0, 5]. proofs/Divisor.antt proves
-- that this is the greatest common divisor in the usual sense. `gcd_by` is only the way `gcd` is defined: cite `gcd`. The definitions are `unfoldable`,
-- so that a proof sees a name until it asks for more.
use Rattle.std.specs.Prelude.{Bool, List, [], ◌∷◌, ℕ, zero, suc, ◌%◌, ◌<◌, eqb, ℤ, pos, nat_abs}
use Rattle.std.specs.Int.{◌∣◌}
use Rattle.std.specs.Int.Signed.{quot_z}
use Rattle.whole.specs.Range.{at}

-- at most k steps from (a, b), each of which puts the remainder in b's place: b steps are always enough
unfoldable pub gcd_by : ℕ → ℕ → ℕ → ℕ
gcd_by zero a b = a
gcd_by (suc k) a zero = a
gcd_by (suc k) a (suc b) = gcd_by k (suc b) (a % suc b)

unfoldable pub gcd : ℕ → ℕ → ℕ
gcd a b = gcd_by b a b

-- the greatest common divisor of four whole numbers, signs apart
unfoldable pub gcd4 : List ℤ → ℕ
gcd4 m = gcd (gcd (nat_abs (at m 0)) (nat_abs (at m 1))) (gcd (nat_abs (at m 2)) (nat_abs (at m 3)))

-- it is 1
abbrev pub lowest? : List ℤ → Bool
lowest? m = eqb (gcd4 m) 1

-- the four numbers divided by g, toward 0: signs stay
abbrev pub divided : List ℤ → ℕ → List ℤ
divided m g = quot_z (at m 0) (pos g) ∷ quot_z (at m 1) (pos g) ∷ quot_z (at m 2) (pos g) ∷ quot_z (at m 3) (pos g) ∷ []

-- g divides each of the four numbers
pub record Divides4 (g : ℕ) (m : List ℤ) : Type 0 where
  pub d0 : g ∣ nat_abs (at m 0)
  pub d1 : g ∣ nat_abs (at m 1)
  pub d2 : g ∣ nat_abs (at m 2)
  pub d3 : g ∣ nat_abs (at m 3)

-- what a quotient asks: a divisor above 0 that a signed word can hold, and no remainder
pub record Exact (a : ℤ) (g : ℕ) : Type 0 where
  pub above : 0 < g
  pub small : g < 9223372036854775808
  pub divides : g ∣ nat_abs a

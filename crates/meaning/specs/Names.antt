-- What digits name. "If z is named by what follows digit a, F_a(z) is named from a on."
use Rattle.std.specs.Prelude.{◌≡◌, List, [], ◌∷◌, ◌++◌, ℕ, ◌*◌, ◌<◌, ℤ, pos, ◌*ℤ◌}
use Rattle.plane.specs.Plane.{Pair, apply, determinant_of, multiply_of, Closed}
use Rattle.plane.specs.Scale.{scale_of, identity_of}
use Rattle.digits.specs.System.{System, transformation, interval}
use Rattle.states.specs.Types.{Held, None, Some}

-- the number named from the first of some digits on, where t is named by what follows them
unfoldable pub named_from : System → List ℕ → Pair → Pair
named_from y [] t = t
named_from y (a ∷ digits) t = apply (transformation y a) (named_from y digits t)

-- the product of the digits' transformations, in their order
unfoldable pub product_of : System → List ℕ → List ℤ
product_of y [] = identity_of
product_of y (a ∷ digits) = multiply_of (transformation y a) (product_of y digits)

-- the product of their determinants
unfoldable pub determinants_of : System → List ℕ → ℤ
determinants_of y [] = pos 1
determinants_of y (a ∷ digits) = determinant_of (transformation y a) *ℤ determinants_of y digits

-- the product of the numbers of a list: of the divisors that were listed
unfoldable pub times_all : List ℕ → ℕ
times_all [] = 1
times_all (g ∷ numbers) = g * times_all numbers

-- "the number named from each digit on lies in that digit's closed interval", where t is named by what follows the digits
unfoldable pub EachInItsInterval : System → List ℕ → Pair → Type 0
EachInItsInterval y [] t = Unit {0}
EachInItsInterval y (a ∷ digits) t = Closed (interval y a) (named_from y (a ∷ digits) t) × EachInItsInterval y digits t

-- the same of the held digit, which is the first of what is not yet absorbed: t is named from it on
abbrev pub HeldInItsInterval : System → Held → Pair → Type 0
HeldInItsInterval y None t = Unit {0}
HeldInItsInterval y (Some a) t = Closed (interval y a) t

-- "Absorbed, not taken: the held digit is not yet absorbed."
abbrev pub held_digits : Held → List ℕ
held_digits None = []
held_digits (Some a) = a ∷ []

-- The absorbed digits are the bytes that went in without the held one, which went in last. There is exactly one such list, and the claim holds of it.
pub record OfTheAbsorbed (bytes : List ℕ) (h : Held) (Claim : List ℕ → Type 0) : Type 0 where
  pub absorbed : List ℕ
  pub with_the_held : absorbed ++ held_digits h ≡ bytes
  pub no_other : (other : List ℕ) → other ++ held_digits h ≡ bytes → other ≡ absorbed
  pub holds : Claim absorbed

-- "equals, up to a positive scale": p·A = q·B for some whole numbers p and q above 0
pub record UpToScale (a b : List ℤ) : Type 0 where
  pub p : ℕ
  pub q : ℕ
  pub p_above : 0 < p
  pub q_above : 0 < q
  pub equal : scale_of (pos p) a ≡ scale_of (pos q) b

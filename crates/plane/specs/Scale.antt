-- Multiples of points, of matrices and of interval ends, and the signs that stay under them: document 01's "Multiples are the same point" and "Signs
-- stay", as the theorems of this crate say it.
use Rattle.std.specs.Prelude.{◌≡◌, List, [], ◌∷◌, ℤ, pos, ◌*ℤ◌, ◌<ℤ◌}
use Rattle.whole.specs.Range.{at}
use Rattle.plane.specs.Plane.{Pair, left, right, determinant_of}

-- the four numbers that a list is read for
abbrev pub entries : List ℤ → List ℤ
entries m = at m 0 ∷ at m 1 ∷ at m 2 ∷ at m 3 ∷ []

-- k times the pair z, and k times the four numbers of m
unfoldable pub scale_pair : ℤ → Pair → Pair
scale_pair k z = record { z0 = k *ℤ z.z0; z1 = k *ℤ z.z1 }

unfoldable pub scale_of : ℤ → List ℤ → List ℤ
scale_of k m = (k *ℤ at m 0) ∷ (k *ℤ at m 1) ∷ (k *ℤ at m 2) ∷ (k *ℤ at m 3) ∷ []

-- the matrix that leaves every pair as it is
abbrev pub identity_of : List ℤ
identity_of = pos 1 ∷ pos 0 ∷ pos 0 ∷ pos 1 ∷ []

-- a matrix of determinant above 0: it keeps intervals, and what is inside them
pub record DetAbove (m : List ℤ) : Type 0 where
  pub above : pos 0 <ℤ determinant_of m

-- q lies where p lies, above, below or at 0
pub record SameSign (p q : ℤ) : Type 0 where
  pub above : pos 0 <ℤ p → pos 0 <ℤ q
  pub below : p <ℤ pos 0 → q <ℤ pos 0
  pub zero : p ≡ pos 0 → q ≡ pos 0

-- the four numbers of n lie where those of m lie
pub record SameSigns (m n : List ℤ) : Type 0 where
  pub s0 : SameSign (at m 0) (at n 0)
  pub s1 : SameSign (at m 1) (at n 1)
  pub s2 : SameSign (at m 2) (at n 2)
  pub s3 : SameSign (at m 3) (at n 3)

-- v's ends are multiples of w's by two numbers of one sign: an end may grow, both may change their sign, and the interval is the same
pub record SameEnds (w v : List ℤ) : Type 0 where
  pub k : ℤ
  pub l : ℤ
  pub together : pos 0 <ℤ (k *ℤ l)
  pub lefts : left v ≡ scale_pair k (left w)
  pub rights : right v ≡ scale_pair l (right w)

-- "Document 000's shorter test (both ends only) is wrong for an I that goes round the other way; document 001's test shuts out equal intervals": the two
-- tests, and how a test can be wrong. What they get wrong is proved in proofs/OtherTests.antt.
use Rattle.std.specs.Prelude.{◌≡◌, Bool, true, false, not, ◌&&◌, ◌||◌, List, ℤ}
use Rattle.plane.specs.Plane.{SamePoint, left, right, Closed}
use Rattle.inclusion.specs.Inclusion.{Included, closed?}

-- document 000: "l(I) ∈ closed J and r(I) ∈ closed J"
abbrev pub test000 : List ℤ → List ℤ → Bool
test000 i j = closed? j (left i) && closed? j (right i)

-- document 001: "l(I) ∈ closed J, r(I) ∈ closed J, and either l(J) ∉ closed I or r(J) ∉ closed I"
abbrev pub test001 : List ℤ → List ℤ → Bool
test001 i j = test000 i j && (not (closed? i (left j)) || not (closed? i (right j)))

-- a test that passes where I is not included in J, and one that fails where it is
pub record WronglyPasses (test : List ℤ → List ℤ → Bool) (i j : List ℤ) : Type 0 where
  pub passes : test i j ≡ true
  pub not_included : Included i j → ⊥

pub record WronglyFails (test : List ℤ → List ℤ → Bool) (i j : List ℤ) : Type 0 where
  pub fails : test i j ≡ false
  pub included : Included i j

-- "one and the same left end and one and the same right end, as points"
pub record SameEndPoints (i j : List ℤ) : Type 0 where
  pub lefts : SamePoint (left i) (left j)
  pub rights : SamePoint (right i) (right j)

-- "an I that goes round the other way": the ends of each lie in the other, closed, and are not the same
pub record GoesRound (i j : List ℤ) : Type 0 where
  pub left_in : Closed j (left i)
  pub right_in : Closed j (right i)
  pub other_left_in : Closed i (left j)
  pub other_right_in : Closed i (right j)
  pub others : SameEndPoints i j → ⊥

-- Document 001's two laws for the digits of system B, as document 02 tells them: "with R(x) = (x+1)/(1−x), F of a+2 is R F_a R inverse, counting modulo 8,
-- and F of 7−a at x is −F_a(−x); the intervals follow the same laws." What a row becomes by each; what that says of points is in proofs/SymmetrySays.antt.
use Rattle.std.specs.Prelude.{List, [], ◌∷◌, ℕ, ℤ, pos, neg_ℤ, nat_abs}
use Rattle.std.specs.Int.Signed.{quot_z}
use Rattle.whole.specs.Divisor.{gcd_by, gcd, gcd4}
use Rattle.plane.specs.Plane.{Pair, left, right, apply, multiply_of, pseudoinverse_of, image_of, cancel_of}
use Rattle.symmetry.specs.Row.{transformation_in, interval_in, joined_row}

-- an interval by its two ends
abbrev pub ends : Pair → Pair → List ℤ
ends x y = x.z0 ∷ x.z1 ∷ y.z0 ∷ y.z1 ∷ []

-- a point in lowest terms, as document 01 asks it of each end; signs stay
abbrev pub divisor_of_two : Pair → ℕ
divisor_of_two z = gcd (nat_abs z.z0) (nat_abs z.z1)

abbrev pub lowest : Pair → Pair
lowest z = record { z0 = quot_z z.z0 (pos (divisor_of_two z)); z1 = quot_z z.z1 (pos (divisor_of_two z)) }

unfoldable pub lowest_ends : List ℤ → List ℤ
unfolding gcd
lowest_ends w = ends (lowest (left w)) (lowest (right w))

-- "R(x) = (x+1)/(1−x)"
abbrev pub rotation : List ℤ
rotation = pos 1 ∷ pos 1 ∷ neg_ℤ (pos 1) ∷ pos 1 ∷ []

-- x ↦ −x
abbrev pub mirror : List ℤ
mirror = neg_ℤ (pos 1) ∷ pos 0 ∷ pos 0 ∷ pos 1 ∷ []

-- "R F_a R inverse": the pseudoinverse is a multiple of R inverse, which cancelling takes away
abbrev pub conjugated : List ℤ → List ℤ
conjugated f = multiply_of (multiply_of rotation f) (pseudoinverse_of rotation)

-- "F of a+2 is R F_a R inverse"; its interval goes from R(x) to R(y), each in lowest terms
unfoldable pub turned : List ℤ → List ℤ
unfolding gcd_by gcd4 apply multiply_of pseudoinverse_of image_of cancel_of lowest_ends
turned r = joined_row (cancel_of (conjugated (transformation_in r))) (lowest_ends (image_of rotation (interval_in r)))

-- "F of 7−a at x is −F_a(−x)"; its interval goes from −y to −x
unfoldable pub reflected : List ℤ → List ℤ
unfolding multiply_of apply
reflected r = joined_row
    (multiply_of (multiply_of mirror (transformation_in r)) mirror)
    (ends (apply mirror (right (interval_in r))) (apply mirror (left (interval_in r))))

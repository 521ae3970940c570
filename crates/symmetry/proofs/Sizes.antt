-- How large the numbers get where a row is turned or reflected, and that there is something to cancel: each product with R or with the mirror doubles the bound.
use Rattle.whole.proofs.Laws.{◌≡◌, refl, List, [], ◌∷◌, ℕ, zero, suc, ◌<◌, arith, lt_z_yes, ℤ, pos, Within, within?, within_says, near_quot, gcd4, gcd4_zero}
use Rattle.plane.proofs.Laws.{Pair, Point, DetAbove, multiply_of, pseudoinverse_of, determinant_of, multiply_within, det_above_multiply, det_above_pseudoinverse}
use Rattle.symmetry.specs.Symmetry.{lowest_ends, rotation, conjugated, mirror}

-- ---- R and the mirror

pub rotation_within : Within 1 rotation
unfolding within?
rotation_within = within_says 1 rotation refl

pub back_within : Within 1 (pseudoinverse_of rotation)
unfolding within? pseudoinverse_of
back_within = within_says 1 (pseudoinverse_of rotation) refl

pub mirror_within : Within 1 mirror
unfolding within?
mirror_within = within_says 1 mirror refl

pub rotation_above : DetAbove rotation
unfolding determinant_of
rotation_above = record { above = lt_z_yes tt }

-- ---- the ends

pub lowest_within : {b : ℕ} {w : List ℤ} → Within b w → Within b (lowest_ends w)
unfolding lowest_ends
lowest_within p = record { n0 = near_quot p.n0 _; n1 = near_quot p.n1 _; n2 = near_quot p.n2 _; n3 = near_quot p.n3 _ }

-- an end as a matrix with nothing else in it
abbrev pub alone : ℤ → ℤ → List ℤ
alone x0 x1 = x0 ∷ x1 ∷ pos 0 ∷ pos 0 ∷ []

-- of a point, its greatest common divisor is above 0
pub point_divisor : {z : Pair} → Point z → 0 < gcd4 (alone z.z0 z.z1)
point_divisor {z} p = above (gcd4 (alone z.z0 z.z1)) refl
  where
    above : (g : ℕ) → gcd4 (alone z.z0 z.z1) ≡ g → 0 < g
    above zero e = let n = gcd4_zero (alone z.z0 z.z1) e in absurd (p.not_both n.0 n.1)
    above (suc g) e = omega arith

-- ---- products

pub conjugated_above : {f : List ℤ} → DetAbove f → DetAbove (conjugated f)
conjugated_above k = det_above_multiply (det_above_multiply rotation_above k) (det_above_pseudoinverse rotation_above)

pub three_within : {m f n : List ℤ} → Within 1 m → Within 100 f → Within 1 n → Within 400 (multiply_of (multiply_of m f) n)
three_within p q r = multiply_within (multiply_within p q) r

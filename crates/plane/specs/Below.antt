-- "So (1/0, 1/−1) runs from infinity to −1": that interval, and what lies between infinity and −1, which is the fractions below −1.
use Rattle.std.specs.Prelude.{List, [], ◌∷◌, ◌⊎◌, ℤ, pos, neg_ℤ, ◌<ℤ◌}
use Rattle.plane.specs.Plane.{Pair}

abbrev pub infinity_to_minus1 : List ℤ
infinity_to_minus1 = pos 1 ∷ pos 0 ∷ pos 1 ∷ neg_ℤ (pos 1) ∷ []

-- z0/z1 < −1, without the division: z0 < −z1 where z1 is above 0, and turned round where it is below; infinity, z1 = 0, is not below −1
abbrev pub BelowMinus1 : Pair → Type 0
BelowMinus1 z = ((pos 0 <ℤ z.z1) × (z.z0 <ℤ neg_ℤ z.z1)) ⊎ ((z.z1 <ℤ pos 0) × (neg_ℤ z.z1 <ℤ z.z0))

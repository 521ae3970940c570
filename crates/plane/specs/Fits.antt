-- What `determinant`, and the functions of the crate `products`, ask of their numbers, so that no product, and no sum or difference of two, leaves 64 bits:
-- the first two of four numbers lie within a, the last two within b, and 2·a·b is below 2^63; or the entries of one matrix lie within a, and those of
-- another within b.
use Rattle.std.specs.Prelude.{List, ℕ, ◌+◌, ◌*◌, ◌^◌, ℤ, T, ltb}
use Rattle.whole.specs.Range.{at, Near, Within}

pub record Products (m : List ℤ) : Type 0 where
  pub a : ℕ
  pub b : ℕ
  pub n0 : Near a (at m 0)
  pub n1 : Near a (at m 1)
  pub n2 : Near b (at m 2)
  pub n3 : Near b (at m 3)
  pub small : T (ltb (a * b + a * b) (2 ^ 63))

pub record FactorsFit (m n : List ℤ) : Type 0 where
  pub a : ℕ
  pub b : ℕ
  pub first : Within a m
  pub second : Within b n
  pub small : T (ltb (a * b + a * b) (2 ^ 63))

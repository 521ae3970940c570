-- `plane::determinant` meets its contract: each product lies within a·b, and their difference within 2·a·b, which fits.
use Rattle.whole.proofs.Laws.{List, ℤ, ◌*◌, ◌*ℤ◌, at, held, Fits, Stands, arith, mul_ok, mul_stands, sub_ok, sub_stands}
use Rattle.plane.specs.Fits.{Products}
use Rattle.plane.specs.Plane.{determinant_of}
use Rattle.plane.proofs.MachineNumbers.{read, products_half}
use Rattle.plane.proofs.determinant.Goals as goal

-- the two products, of entries that were read
module _ {m : List ℤ} (p : Products m) where
  ad : Fits (at m 0) → Fits (at m 3) → Stands (p.a * p.b) (held (held (at m 0) *ℤ held (at m 3))) (at m 0 *ℤ at m 3)
  ad f g = mul_stands (read f p.n0) (read g p.n3) (products_half p)

  bc : Fits (at m 1) → Fits (at m 2) → Stands (p.a * p.b) (held (held (at m 1) *ℤ held (at m 2))) (at m 1 *ℤ at m 2)
  bc f g = mul_stands (read f p.n1) (read g p.n2) (products_half p)

pub overflow_mul-result : goal.overflow_mul-result
overflow_mul-result c = let p = c.requires in mul_ok (read (omega arith) p.n0) (read (omega arith) p.n3) (products_half p)

pub overflow_mul-result-2 : goal.overflow_mul-result-2
overflow_mul-result-2 c = let p = c.requires in mul_ok (read (omega arith) p.n1) (read (omega arith) p.n2) (products_half p)

pub overflow_sub-result : goal.overflow_sub-result
overflow_sub-result c = let p = c.requires in sub_ok (ad p (omega arith) (omega arith)) (bc p (omega arith) (omega arith)) p.small

pub returns : goal.returns
unfolding determinant_of
returns c = let p = c.requires in (sub_stands (ad p (omega arith) (omega arith)) (bc p (omega arith) (omega arith)) p.small).is

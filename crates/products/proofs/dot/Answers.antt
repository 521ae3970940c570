-- `products::dot` meets its contract: each product lies within a·b, and their sum within 2·a·b, which fits.
use Rattle.whole.proofs.Laws.{ℕ, ◌*◌, Near, ℤ, ◌*ℤ◌, held, Stands, mul_ok, mul_stands, add_ok, add_stands}
use mir.Facts.{to_z-of_z}
use mir.Syntax.{w64}
use mir.Val.{SFits}
use Rattle.plane.proofs.Laws.{products_half}
use Rattle.products.proofs.dot.Goals.{Start}
use Rattle.products.proofs.dot.Goals as goal

-- a parameter
argument : {b : ℕ} {z : ℤ} → SFits w64 z → Near b z → Stands b (held z) z
argument f h = record { is = to_z-of_z f; near = h }

module _ (c : Start) where
  first : Stands (c.requires.a * c.requires.b) (held (held c.args.a *ℤ held c.args.x)) (c.args.a *ℤ c.args.x)
  first = mul_stands (argument c.ranges.a c.requires.n0) (argument c.ranges.x c.requires.n2) (products_half c.requires)

  second : Stands (c.requires.a * c.requires.b) (held (held c.args.b *ℤ held c.args.y)) (c.args.b *ℤ c.args.y)
  second = mul_stands (argument c.ranges.b c.requires.n1) (argument c.ranges.y c.requires.n3) (products_half c.requires)

pub overflow_mul-result : goal.overflow_mul-result
overflow_mul-result c = mul_ok (argument c.ranges.a c.requires.n0) (argument c.ranges.x c.requires.n2) (products_half c.requires)

pub overflow_mul-result-2 : goal.overflow_mul-result-2
overflow_mul-result-2 c = mul_ok (argument c.ranges.b c.requires.n1) (argument c.ranges.y c.requires.n3) (products_half c.requires)

pub overflow_add-result : goal.overflow_add-result
overflow_add-result c = add_ok (first c) (second c) c.requires.small

pub returns : goal.returns
returns c = (add_stands (first c) (second c) c.requires.small).is

-- `steps::absorbed_product` meets its contract: by the constants of R, where nothing is cancelled, or from the digit's transformation, cancelled by its determinant.
use Rattle.whole.proofs.Laws.{refl, sym, ap, subst, subst₂, ◌∙◌, List, ℕ, nat_abs, ℤ, gcd4, Within}
use Rattle.plane.proofs.Laws.{cancel_of, determinant_of, multiply_of, within_products}
use Rattle.digits.proofs.Laws.{transformation}
use Rattle.built_in_digits.proofs.Laws.{r_determinant}
use Rattle.steps.specs.Made.{Factors}
use Rattle.steps.proofs.Factors.{absorb_factors}
use Rattle.steps.proofs.ByDeterminant.{cast_ok, size_held, nothing_cancelled}
use Rattle.steps.proofs.absorbed_product.Goals as goal
use Rattle.digits.specs.Orders.{viewed}

-- the product, by the digit's transformation
abbrev by : List ℤ → List ℤ → List ℤ
by x f = multiply_of x f

-- ---- where r is true

pub absorbed_r-requires : goal.absorbed_r-requires
absorbed_r-requires c = (c.requires.0.in_range, c.requires.1.below c.if-r.true)

pub returns-then-r : goal.returns-then-r
unfolding multiply_of
returns-then-r c =
    let x = c.args.s.matrix in
    let same = c.requires.1.same c.if-r.true in
    let one = ap (λ (f : List ℤ). nat_abs (determinant_of f)) same ∙ r_determinant _ (c.requires.1.below c.if-r.true) in
    let kept = nothing_cancelled (by x (transformation (viewed c.args.inputs) c.args.h)) refl (absorb_factors c.requires.0).divides one in
    (kept.0, c.absorbed_r.ensures ∙ ap (by x) (sym same) ∙ kept.1)

-- ---- where it is not: by the transformation that was read

pub transformation-f-requires : goal.transformation-f-requires
transformation-f-requires c = c.requires.0.there

pub determinant-d-requires : goal.determinant-d-requires
determinant-d-requires c = within_products (subst (Within 100) (sym c.transformation-f.ensures) c.requires.0.digit.in_range.numbers_f) tt

pub overflow_cast-d : goal.overflow_cast-d
overflow_cast-d c = cast_ok c.requires.0.digit.above c.determinant-d.type_inv (c.determinant-d.ensures ∙ ap determinant_of c.transformation-f.ensures)

pub product-requires : goal.product-requires
product-requires c =
    subst₂ (λ (f : List ℤ) (n : ℕ). Factors c.args.s.matrix f n) (sym c.transformation-f.ensures) (size_held c.requires.0.digit.above c.determinant-d.type_inv (c.determinant-d.ensures ∙ ap determinant_of c.transformation-f.ensures)) (absorb_factors c.requires.0)

pub returns : goal.returns
returns c =
    let same = ap (multiply_of c.args.s.matrix) c.transformation-f.ensures in
    (c.product.ensures.0 ∙ ap gcd4 same, c.product.ensures.1 ∙ ap cancel_of same)

-- `steps::given_product` meets its contract: by the constants of R, where nothing is cancelled, or from the digit's transformation, cancelled by its determinant.
use Rattle.whole.proofs.Laws.{refl, sym, ap, subst, subst₂, ◌∙◌, List, ℕ, nat_abs, ℤ, gcd4, Within, within_le}
use Rattle.plane.proofs.Laws.{cancel_of, determinant_of, multiply_of, pseudoinverse_of, within_products}
use Rattle.digits.proofs.Laws.{transformation}
use Rattle.built_in_digits.proofs.Laws.{r_determinant}
use Rattle.steps.specs.Made.{Factors}
use Rattle.steps.proofs.Factors.{give_factors}
use Rattle.steps.proofs.ByDeterminant.{cast_ok, size_held, nothing_cancelled}
use Rattle.steps.proofs.given_product.Goals as goal
use Rattle.digits.specs.Orders.{viewed}

-- the product, by the digit's transformation
abbrev by : List ℤ → List ℤ → List ℤ
by x f = multiply_of (pseudoinverse_of f) x

-- ---- where r is true

pub given_r-requires : goal.given_r-requires
given_r-requires c = (c.requires.0.in_range, c.requires.1.below c.if-r.true)

pub returns-then-r : goal.returns-then-r
unfolding multiply_of
returns-then-r c =
    let x = c.args.s.matrix in
    let same = c.requires.1.same c.if-r.true in
    let one = ap (λ (f : List ℤ). nat_abs (determinant_of f)) same ∙ r_determinant _ (c.requires.1.below c.if-r.true) in
    let kept = nothing_cancelled (by x (transformation (viewed c.args.outputs) c.args.b)) refl (give_factors c.requires.0).divides one in
    (kept.0, c.given_r.ensures ∙ ap (by x) (sym same) ∙ kept.1)

-- ---- where it is not: by the transformation that was read

pub transformation-g-requires : goal.transformation-g-requires
transformation-g-requires c = c.requires.0.there

pub determinant-d-requires : goal.determinant-d-requires
determinant-d-requires c = within_products (subst (Within 100) (sym c.transformation-g.ensures) c.requires.0.digit.in_range.numbers_f) tt

pub pseudoinverse-requires : goal.pseudoinverse-requires
pseudoinverse-requires c = subst (Within 1000000000) (sym c.transformation-g.ensures) (within_le c.requires.0.digit.in_range.numbers_f tt)

pub overflow_cast-d : goal.overflow_cast-d
overflow_cast-d c = cast_ok c.requires.0.digit.above c.determinant-d.type_inv (c.determinant-d.ensures ∙ ap determinant_of c.transformation-g.ensures)

pub product-requires : goal.product-requires
product-requires c =
    subst₂ (λ (m : List ℤ) (n : ℕ). Factors m c.args.s.matrix n) (sym (c.pseudoinverse.ensures ∙ ap pseudoinverse_of c.transformation-g.ensures)) (size_held c.requires.0.digit.above c.determinant-d.type_inv (c.determinant-d.ensures ∙ ap determinant_of c.transformation-g.ensures)) (give_factors c.requires.0)

pub returns : goal.returns
returns c =
    let same = ap (λ (m : List ℤ). multiply_of m c.args.s.matrix) (c.pseudoinverse.ensures ∙ ap pseudoinverse_of c.transformation-g.ensures) in
    (c.product.ensures.0 ∙ ap gcd4 same, c.product.ensures.1 ∙ ap cancel_of same)

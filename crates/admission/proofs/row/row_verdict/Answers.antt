-- `admission::row::row_verdict` meets its contract: the code asks the tests of `row_verdict` in their order, and what it hands on has passed those before.
use Rattle.whole.proofs.Laws.{eq-eqb, ne_eqb, ◌≡◌, sym, ◌∙◌, true, not, cond, ◌&&◌, pos, le_z, true_both, within_says, within?, lowest?, held}
use Rattle.plane.proofs.Laws.{above, below, within_products}
use Rattle.admission.specs.Admission.{lowest_ends?, row_verdict}
use Rattle.admission.specs.Types.{Admitted, Err, NotBelow, NotLowest}
use Rattle.admission.proofs.row.row_verdict.Goals.{After-determinant-2, After-lowest_ends, Else-determinant-ge0, Else-not-within, Else-not-within-2}
use Rattle.admission.proofs.row.row_verdict.Goals as goal

-- the numbers of F and of W that were found in range
range-f : (c : Else-not-within) → within? 100 c.args.f ≡ true
range-f c = let t = c.within in sym t.ensures ∙ c.if-not-within.false

range-w : (c : Else-not-within-2) → within? 100 c.args.w ≡ true
range-w c = let t = c.within-2 in sym t.ensures ∙ c.if-not-within-2.false

range : (c : Else-not-within-2) → let a = c.args in (within? 100 a.f && within? 100 a.w) ≡ true
range c = true_both (range-f c.before.before) (range-w c)

-- the verdict where 6 and 7 do not apply, where 8 does not either, and where F is in lowest terms
from-8 : (c : After-determinant-2) → let a = c.args in
    row_verdict a.f a.w ≡ cond (not (le_z (pos 0) (held c.determinant-2.result))) (cond (lowest? a.f && lowest_ends? a.w) Admitted (Err NotLowest)) (Err NotBelow)
unfolding row_verdict
from-8 c =
    let p = c.before in
    let f = p.before in
    rw (range f.before, above f.determinant.type_inv f.determinant.ensures, p.if-determinant-le0.false, below c.determinant-2.type_inv c.determinant-2.ensures)

from-9 : (c : Else-determinant-ge0) → let a = c.args in
    row_verdict a.f a.w ≡ cond (lowest? a.f && lowest_ends? a.w) Admitted (Err NotLowest)
from-9 c = rw (from-8 c.before, c.if-determinant-ge0.false)

ends : (c : After-lowest_ends) → let a = c.args in
    row_verdict a.f a.w ≡ cond c.lowest_ends.result Admitted (Err NotLowest)
ends c = let g = c.before.before in rw (from-9 g.before, sym g.divisor.ensures, eq-eqb _ _ c.if-divisor-ne1.false, sym c.lowest_ends.ensures)

pub returns-then-not-within : goal.returns-then-not-within
unfolding row_verdict
returns-then-not-within c = let t = c.within in rw (sym t.ensures ∙ c.if-not-within.true)

pub returns-then-not-within-2 : goal.returns-then-not-within-2
unfolding row_verdict
returns-then-not-within-2 c = let t = c.within-2 in rw (range-f c.before.before, sym t.ensures ∙ c.if-not-within-2.true)

pub returns-then-determinant-le0 : goal.returns-then-determinant-le0
unfolding row_verdict
returns-then-determinant-le0 c = let f = c.before in rw (range f.before, above f.determinant.type_inv f.determinant.ensures, c.if-determinant-le0.true)

pub returns-then-divisor-ne1 : goal.returns-then-divisor-ne1
returns-then-divisor-ne1 c = let g = c.before in rw (from-9 g.before, sym g.divisor.ensures, ne_eqb _ _ c.if-divisor-ne1.true)

pub determinant-requires : goal.determinant-requires
determinant-requires c = within_products (within_says 100 _ (range-f c.before.before)) tt

pub determinant-requires-2 : goal.determinant-requires-2
determinant-requires-2 c = within_products (within_says 100 _ (range-w c.before.before)) tt

pub returns-then-determinant-ge0 : goal.returns-then-determinant-ge0
returns-then-determinant-ge0 c = rw (from-8 c.before, c.if-determinant-ge0.true)

pub returns-then-lowest_ends : goal.returns-then-lowest_ends
returns-then-lowest_ends c = rw (ends c.before, c.if-lowest_ends.true)

pub returns : goal.returns
returns c = rw (ends c.before, c.if-lowest_ends.false)

-- `giving::one_sided` meets its contract: the coefficients of each image are what `coefficients_of` ensures, and the test of all four is made of the tests of each.
use Rattle.whole.proofs.Laws.{sym, ◌∙◌, ap, not, ◌&&◌, ◌||◌}
use Rattle.giving.specs.MayGive.{none_below?, none_above?}
use Rattle.giving.proofs.ImageByImage.{image_gets, by_images, first_fails}
use Rattle.giving.proofs.one_sided.Goals as goal

pub returns-then-not-up-down : goal.returns-then-not-up-down
returns-then-not-up-down c =
    let a = c.args in
    let p = c.requires.0 in
    let e = image_gets p.over.n0 p.under.n0 a.u c.coefficients_of-first.ensures in
    let up = c.none_below-up.ensures ∙ ap none_below? e in
    let down = c.none_above-down.ensures ∙ ap none_above? e in
    sym (first_fails a.u a.images ((λ i. not (sym up i || sym down i)) ∙ ap not c.if-not-up-down.true))

pub returns : goal.returns
returns c =
    let a = c.args in
    let p = c.requires.0 in
    let first = image_gets p.over.n0 p.under.n0 a.u c.coefficients_of-first.ensures in
    let second = image_gets p.over.n1 p.under.n1 a.u c.coefficients_of-second.ensures in
    let third = image_gets p.over.n2 p.under.n2 a.u c.coefficients_of-third.ensures in
    let fourth = image_gets p.over.n3 p.under.n3 a.u c.coefficients_of-fourth.ensures in
    (λ i. c.none_below-up.ensures i && c.none_below.ensures i && c.none_below-2.ensures i && c.none_below-3.ensures i ||
    c.none_above-down.ensures i && c.none_above.ensures i && c.none_above-2.ensures i && c.none_above-3.ensures i) ∙
    (λ i. none_below? (first i) && none_below? (second i) && none_below? (third i) && none_below? (fourth i) ||
    none_above? (first i) && none_above? (second i) && none_above? (third i) && none_above? (fourth i)) ∙
    sym (by_images a.u a.images)

-- `bilinear::into_x` meets its contract, by those of its two products.
use Rattle.whole.proofs.Laws.{◌≡◌, sym, ◌∙◌, ap, subst, List, ℤ, Within}
use Rattle.plane.proofs.Laws.{multiply_of}
use Rattle.products.proofs.Laws.{factors_fit}
use Rattle.bilinear.specs.Form.{form, turned_over, into_x}
use Rattle.bilinear.proofs.Sizes.{turned_within}
use Rattle.bilinear.proofs.into_x.Goals as goal

small : {f t : List ℤ} → t ≡ turned_over f → Within 100 f → Within 100 t
small e w = subst (Within 100) (sym e) (turned_within w)

pub multiply-requires : goal.multiply-requires
multiply-requires c = factors_fit (small c.turned_over-t.ensures c.requires.1) c.requires.0.over tt

pub multiply-requires-2 : goal.multiply-requires-2
multiply-requires-2 c = factors_fit (small c.turned_over-t.ensures c.requires.1) c.requires.0.under tt

pub returns : goal.returns
unfolding into_x
returns c =
    let m = c.args.m in
    let by : List ℤ → List ℤ → List ℤ = λ n f. multiply_of f n in
    λ i. form ((c.multiply.ensures ∙ ap (by m.numerator) c.turned_over-t.ensures) i) ((c.multiply-2.ensures ∙ ap (by m.denominator) c.turned_over-t.ensures) i)

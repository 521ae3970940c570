-- `bilinear::times` meets its contract: the halves of P·X are the products of P with the halves of X.
use Rattle.whole.proofs.Laws.{sym, ◌∙◌, ap, ap₂, subst, Within}
use Rattle.plane.proofs.Laws.{multiply_of}
use Rattle.products.proofs.Laws.{factors_fit}
use Rattle.bilinear.specs.Form.{of_halves, times_form}
use Rattle.bilinear.proofs.Sizes.{front_within, back_within}
use Rattle.bilinear.proofs.times.Goals as goal

pub multiply-requires : goal.multiply-requires
multiply-requires c = factors_fit c.requires.0 (subst (Within 1000000000) (sym c.half_from.ensures) (front_within c.requires.1)) tt

pub multiply-requires-2 : goal.multiply-requires-2
multiply-requires-2 c = factors_fit c.requires.0 (subst (Within 1000000000) (sym c.half_from-2.ensures) (back_within c.requires.1)) tt

pub returns : goal.returns
unfolding times_form multiply_of
returns c =
    let p = c.args.p in
    c.of_halves.ensures ∙ ap₂ of_halves (c.multiply.ensures ∙ ap (multiply_of p) c.half_from.ensures) (c.multiply-2.ensures ∙ ap (multiply_of p) c.half_from-2.ensures)

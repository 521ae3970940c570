-- `giving::images` meets its contract: the two products of three matrices are the four images (proofs/FourImages.antt), and no number on the way leaves 64 bits.
use Rattle.whole.proofs.Laws.{◌≡◌, sym, ◌∙◌, ap, subst}
use Rattle.plane.proofs.Laws.{multiply_of}
use Rattle.bilinear.proofs.Laws.{form, WithinForm}
use Rattle.giving.specs.MayGive.{columns_of_form}
use Rattle.giving.proofs.FourImages.{images_form, second_fits, images_form_lem, images_within}
use Rattle.giving.proofs.images.Goals as goal

pub multiply-requires-2 : goal.multiply-requires-2
multiply-requires-2 c = let p = c.requires in second_fits p.1 p.0.over p.2 c.multiply.ensures c.turned_over-t.ensures

pub multiply-requires-4 : goal.multiply-requires-4
multiply-requires-4 c = let p = c.requires in second_fits p.1 p.0.under p.2 c.multiply-3.ensures c.turned_over-t.ensures

pub returns : goal.returns
returns c =
    let a = c.args in
    let p = c.requires in
    let t = c.turned_over-t.ensures in
    let e : form c.multiply-2.result c.multiply-4.result ≡ images_form a.m a.v a.w =
    λ i. form
    ((c.multiply-2.ensures ∙ (λ j. multiply_of (c.multiply.ensures j) (t j))) i)
    ((c.multiply-4.ensures ∙ (λ j. multiply_of (c.multiply-3.ensures j) (t j))) i) in
    (ap columns_of_form e ∙ images_form_lem a.m a.v a.w, subst (WithinForm 40000000000000) (sym e) (images_within p.0 p.1 p.2))

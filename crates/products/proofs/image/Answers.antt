-- `products::image` meets its contract: the product's columns are the images of the ends, and written as rows they are X·W.
use Rattle.whole.proofs.Laws.{◌≡◌, ◌∙◌, ap, List, [], ◌∷◌, ℤ, at, back, ok_back, arith}
use Rattle.plane.proofs.Laws.{multiply_of, apply, image_of, four_equal}
use Rattle.products.proofs.image.Goals as goal

pub returns : goal.returns
unfolding multiply_of image_of apply
returns c =
    let w = c.requires.1 in
    let a = c.args in
    let e : c.multiply.result ≡ multiply_of a.m (at a.w 0 ∷ at a.w 2 ∷ at a.w 1 ∷ at a.w 3 ∷ []) =
    c.multiply.ensures ∙ ap (multiply_of a.m) (four_equal (back w.n0 tt) (back w.n2 tt) (back w.n1 tt) (back w.n3 tt)) in
    four_equal
    (ok_back (omega arith) ∙ ap (λ (l : List ℤ). at l 0) e)
    (ok_back (omega arith) ∙ ap (λ (l : List ℤ). at l 2) e)
    (ok_back (omega arith) ∙ ap (λ (l : List ℤ). at l 1) e)
    (ok_back (omega arith) ∙ ap (λ (l : List ℤ). at l 3) e)

-- `expanding::form` meets its contract: the entries of the product of F and F with its rows for columns, and det F, lie within 20,000, and are read back as they are.
use Rattle.whole.proofs.Laws.{◌≡◌, ◌∙◌, ap, List, [], ◌∷◌, ℤ, at, Near, Within, back, near_back, ok_back, held, Stands, sub_ok, sub_stands}
use Rattle.plane.proofs.Laws.{determinant_of, multiply_of, multiply_within, within_products, four_equal}
use Rattle.products.proofs.Laws.{factors_fit}
use Rattle.expanding.specs.Expanding.{form_of}
use Rattle.expanding.proofs.Sizes.{determinant_near}
use Rattle.expanding.proofs.form.Goals.{After-multiply-s, Start}
use Rattle.expanding.proofs.form.Goals as goal

-- x was read, and is y
entry : {x y : ℤ} → x ≡ y → Near 20000 y → Stands 20000 (held x) y
entry e h = record { is = ap held e ∙ back h tt; near = h }

module _ (c : After-multiply-s) where
  abbrev start : Start
  start = c.before.before.before.before.before.before

  abbrev f : List ℤ
  f = start.args.f

  abbrev turned : List ℤ
  turned = at f 0 ∷ at f 2 ∷ at f 1 ∷ at f 3 ∷ []

  within : Within 20000 (multiply_of f turned)
  within = let w = start.requires in multiply_within w (record { n0 = w.n0; n1 = w.n2; n2 = w.n1; n3 = w.n3 })

  product : c.multiply-s.result ≡ multiply_of f turned
  product = let w = start.requires in c.multiply-s.ensures ∙ ap (multiply_of f) (four_equal (back w.n0 tt) (back w.n2 tt) (back w.n1 tt) (back w.n3 tt))

  determinant : Stands 20000 (held c.determinant-d.result) (determinant_of f)
  determinant = let d = c.determinant-d in record { is = ok_back d.type_inv ∙ d.ensures; near = determinant_near start.requires }

  first : Stands 20000 (held (at c.multiply-s.result 0)) (at (multiply_of f turned) 0)
  first = entry (ap (λ (l : List ℤ). at l 0) product) within.n0

  last : Stands 20000 (held (at c.multiply-s.result 3)) (at (multiply_of f turned) 3)
  last = entry (ap (λ (l : List ℤ). at l 3) product) within.n3

pub multiply-s-requires : goal.multiply-s-requires
multiply-s-requires c =
    let w = c.requires in
    factors_fit w (record { n0 = near_back w.n0 tt; n1 = near_back w.n2 tt; n2 = near_back w.n1 tt; n3 = near_back w.n3 tt }) tt

pub returns : goal.returns
unfolding form_of multiply_of
returns c =
    let m = c.before.before.before.before in
    four_equal
    (sub_stands (determinant m) (last m) tt).is
    (entry (ap (λ (l : List ℤ). at l 1) (product m)) (within m).n1).is
    (entry (ap (λ (l : List ℤ). at l 2) (product m)) (within m).n2).is
    (sub_stands (determinant m) (first m) tt).is

pub determinant-d-requires : goal.determinant-d-requires
determinant-d-requires c = within_products c.requires tt

pub overflow_sub-result : goal.overflow_sub-result
overflow_sub-result c = sub_ok (determinant c.before) (last c.before) tt

pub overflow_sub-result-2 : goal.overflow_sub-result-2
overflow_sub-result-2 c = let m = c.before.before.before.before in sub_ok (determinant m) (first m) tt

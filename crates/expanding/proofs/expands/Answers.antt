-- `expanding::expands` meets its contract: what `dot` ensures of the ends of W and of their images under the form, and `grows` of the three numbers.
use Rattle.whole.proofs.Laws.{◌≡◌, ◌∙◌, ap, sym, subst, List, [], ◌∷◌, ℤ, ◌+ℤ◌, ◌*ℤ◌, Near, Within, within_le, near_mul, near_add, held, Fits, Stands, stored}
use Rattle.plane.proofs.Laws.{Products, left, right, dot, image_of, image_within}
use Rattle.products.proofs.Laws.{dot_asks, dot_held}
use Rattle.expanding.specs.Expanding.{form_of, grows?, expands?}
use Rattle.expanding.proofs.Sizes.{form_within}
use Rattle.expanding.proofs.expands.Goals.{After-dot, After-dot-2, After-dot-3, After-image-i}
use Rattle.expanding.proofs.expands.Goals as goal

-- x·y of an end and an image, as words hold them
module _ {x0 x1 y0 y1 : ℤ} (h0 : Near 100 x0) (h1 : Near 100 x1) (k0 : Near 8000000 y0) (k1 : Near 8000000 y1) where
  asked : Products (held x0 ∷ held x1 ∷ held y0 ∷ held y1 ∷ [])
  asked = dot_asks (stored h0 tt) (stored h1 tt) (stored k0 tt) (stored k1 tt) tt

  number : {r : ℤ} → Fits r → r ≡ held x0 *ℤ held y0 +ℤ held x1 *ℤ held y1 → Stands 1600000000 (held r) (x0 *ℤ y0 +ℤ x1 *ℤ y1)
  number fits e = record { is = dot_held (stored h0 tt) (stored h1 tt) (stored k0 tt) (stored k1 tt) fits e; near = near_add (near_mul h0 k0) (near_mul h1 k1) }

sized : {u z : ℤ} → Stands 1600000000 u z → Near 1600000000 u
sized s = subst (Near 1600000000) (sym s.is) s.near

-- the ends, and their images
module _ (c : After-image-i) where
  abbrev w : List ℤ
  w = c.args.w

  abbrev i : List ℤ
  i = c.image-i.result

  ends : Within 100 w
  ends = c.requires.1

  is : i ≡ image_of (form_of c.args.f) w
  is = c.image-i.ensures ∙ ap (λ (m : List ℤ). image_of m w) c.form.ensures

  images : Within 8000000 i
  images = subst (Within 8000000) (sym is) (image_within (form_within c.requires.0) ends)

-- the three numbers
module _ (c : After-dot-3) where
  abbrev mixed : After-dot-2
  mixed = c.before.before.before.before.before

  abbrev first : After-dot
  first = mixed.before.before.before.before.before

  abbrev there : After-image-i
  there = first.before.before.before.before.before

  p : Stands 1600000000 (held first.dot.result) (dot (left (w there)) (left (i there)))
  p = let x = ends there in let y = images there in number x.n0 x.n1 y.n0 y.n1 first.dot.type_inv first.dot.ensures

  b : Stands 1600000000 (held mixed.dot-2.result) (dot (left (w there)) (right (i there)))
  b = let x = ends there in let y = images there in number x.n0 x.n1 y.n2 y.n3 mixed.dot-2.type_inv mixed.dot-2.ensures

  q : Stands 1600000000 (held c.dot-3.result) (dot (right (w there)) (right (i there)))
  q = let x = ends there in let y = images there in number x.n2 x.n3 y.n2 y.n3 c.dot-3.type_inv c.dot-3.ensures

pub image-i-requires : goal.image-i-requires
image-i-requires c = let p = c.requires in (subst (Within 1000000000) (sym c.form.ensures) (within_le (form_within p.0) tt), p.1)

pub returns : goal.returns
unfolding expands? image_of
returns c =
    let d = c.before in
    c.grows.ensures ∙ (λ k. grows? ((p d).is k) ((b d).is k) ((q d).is k)) ∙
    ap (λ (l : List ℤ). grows? (dot (left (w (there d))) (left l)) (dot (left (w (there d))) (right l)) (dot (right (w (there d))) (right l))) (is (there d))

pub dot-requires : goal.dot-requires
dot-requires c = let m = c.before.before.before.before in asked (ends m).n0 (ends m).n1 (images m).n0 (images m).n1

pub dot-requires-2 : goal.dot-requires-2
dot-requires-2 c = let m = c.before.before.before.before.before.before.before.before.before in asked (ends m).n0 (ends m).n1 (images m).n2 (images m).n3

pub dot-requires-3 : goal.dot-requires-3
dot-requires-3 c = let m = c.before.before.before.before.before.before.before.before.before.before.before.before.before.before in asked (ends m).n2 (ends m).n3 (images m).n2 (images m).n3

pub grows-requires : goal.grows-requires
grows-requires c = (sized (p c), sized (b c), sized (q c))

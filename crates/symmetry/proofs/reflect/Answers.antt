-- `symmetry::reflect` meets its contract: what the products ensure of F and of W's ends, and the ends change over.
use Rattle.whole.proofs.Laws.{◌≡◌, refl, sym, ◌∙◌, ap, ap₂, subst, List, ℤ, Within, within?, within_says, within_le}
use Rattle.plane.proofs.Laws.{left, right, apply, image_of, multiply_of, image_within}
use Rattle.symmetry.specs.Row.{transformation_in, interval_in, joined_row}
use Rattle.symmetry.specs.Symmetry.{ends, mirror, reflected}
use Rattle.symmetry.proofs.Sizes.{mirror_within, three_within}
use Rattle.symmetry.proofs.reflect.Goals.{After-changed_over-ends}
use Rattle.symmetry.proofs.reflect.Goals as goal

pub product_of_three-mirrored-requires : goal.product_of_three-mirrored-requires
unfolding within?
product_of_three-mirrored-requires c = (within_says 1 _ refl, subst (Within 100) (sym c.parts.ensures.0) c.requires.numbers_f, within_says 1 _ refl)

pub image-requires : goal.image-requires
unfolding within?
image-requires c = (within_says 1000000000 _ refl, subst (Within 100) (sym c.parts.ensures.1) c.requires.numbers_w)

-- what is worked out of F, and of W
module _ (c : After-changed_over-ends) where
  is_f : c.product_of_three-mirrored.result ≡ multiply_of (multiply_of mirror (transformation_in c.args.row)) mirror
  is_f = c.product_of_three-mirrored.ensures ∙ ap (λ (m : List ℤ). multiply_of (multiply_of mirror m) mirror) c.parts.ensures.0

  is-w : c.changed_over-ends.result ≡ ends (apply mirror (right (interval_in c.args.row))) (apply mirror (left (interval_in c.args.row)))
  unfolding image_of
  is-w = c.changed_over-ends.ensures ∙ ap (λ (w : List ℤ). ends (right w) (left w)) (c.image.ensures ∙ ap (image_of mirror) c.parts.ensures.1)

pub joined-requires : goal.joined-requires
unfolding image_of
joined-requires c =
    let w = within_le {b = 400} (image_within mirror_within c.requires.numbers_w) tt in (
      subst (Within 400) (sym (is_f c)) (three_within mirror_within c.requires.numbers_f mirror_within),
      subst (Within 400) (sym (is-w c)) (record { n0 = w.n2; n1 = w.n3; n2 = w.n0; n3 = w.n1 }),
    )

pub returns : goal.returns
unfolding reflected
returns c = c.joined.ensures ∙ ap₂ joined_row (is_f c.before) (is-w c.before)

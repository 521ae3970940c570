-- `symmetry::turn` meets its contract: what the products ensure of F and of W's ends, and what cancelling makes of them.
use Rattle.whole.proofs.Laws.{◌≡◌, refl, sym, ◌∙◌, ap, ap₂, subst, List, ℤ, ◌<◌, Within, within?, within_says, gcd4, within_le}
use Rattle.plane.proofs.Laws.{image_of, pseudoinverse_of, cancel_of, image_within, interval_moves, cancel_within, divisor_above}
use Rattle.symmetry.specs.Row.{Turnable, transformation_in, interval_in, joined_row}
use Rattle.symmetry.specs.Symmetry.{lowest_ends, rotation, conjugated, turned}
use Rattle.symmetry.proofs.Sizes.{conjugated_above, rotation_within, back_within, rotation_above, three_within, lowest_within}
use Rattle.symmetry.proofs.turn.Goals.{After-lowest_ends-ends}
use Rattle.symmetry.proofs.turn.Goals as goal

pub product_of_three-requires : goal.product_of_three-requires
unfolding within?
product_of_three-requires c = (within_says 1 _ refl, subst (Within 100) (sym c.parts.ensures.0) c.requires.small.numbers_f, within_says 1 _ refl)

pub image-requires : goal.image-requires
unfolding within?
image-requires c = (within_says 1000000000 _ refl, subst (Within 100) (sym c.parts.ensures.1) c.requires.small.numbers_w)

-- what is worked out of F, and of W
abbrev turned-f : List ℤ → List ℤ
turned-f row = conjugated (transformation_in row)

abbrev turned-w : List ℤ → List ℤ
turned-w row = image_of rotation (interval_in row)

module _ {row : List ℤ} (r : Turnable row) where
  small-f : Within 400 (turned-f row)
  small-f = three_within rotation_within r.small.numbers_f back_within

  small-w : Within 200 (turned-w row)
  small-w = image_within rotation_within r.small.numbers_w

  above : 0 < gcd4 (turned-f row)
  above = divisor_above (conjugated_above r.above)

pub cancel-turned-requires : goal.cancel-turned-requires
unfolding pseudoinverse_of
cancel-turned-requires c =
    let e : c.product_of_three.result ≡ turned-f c.args.row = c.product_of_three.ensures ∙ ap conjugated c.parts.ensures.0 in
    rw e (within_le (small-f c.requires) tt, above c.requires)

pub lowest_ends-ends-requires : goal.lowest_ends-ends-requires
lowest_ends-ends-requires c =
    let e : c.image.result ≡ turned-w c.args.row = c.image.ensures ∙ ap (image_of rotation) c.parts.ensures.1 in
    rw e (small-w c.requires, interval_moves rotation_above c.requires.interval)

module _ (c : After-lowest_ends-ends) where
  is-cancelled : c.cancel-turned.result.matrix ≡ cancel_of (turned-f c.args.row)
  unfolding pseudoinverse_of
  is-cancelled = c.cancel-turned.ensures.1 ∙ ap cancel_of (c.product_of_three.ensures ∙ ap conjugated c.parts.ensures.0)

  is-lowest : c.lowest_ends-ends.result ≡ lowest_ends (turned-w c.args.row)
  is-lowest = c.lowest_ends-ends.ensures ∙ ap lowest_ends (c.image.ensures ∙ ap (image_of rotation) c.parts.ensures.1)

pub joined-requires : goal.joined-requires
joined-requires c = rw (is-cancelled c.before, is-lowest c.before) (cancel_within (small-f c.requires), within_le (lowest_within (small-w c.requires)) tt)

pub returns : goal.returns
unfolding turned
returns c = c.joined.ensures ∙ ap₂ joined_row (is-cancelled c.before.before) (is-lowest c.before.before)

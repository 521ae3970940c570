-- `symmetry::lowest_ends` meets its contract: the ends of an interval are points, so each has a divisor above 0; and what is 0 beside an end changes no divisor of it.
use Rattle.whole.proofs.Laws.{◌≡◌, refl, ◌∙◌, ap, List, ◌<◌, ℤ, at, Near, Within, gcd, gcd4, gcd_by, near_le, back, held, ok_back, arith}
use Rattle.plane.proofs.Laws.{Point, cancel_of, four_equal, left_point, right_point}
use Rattle.symmetry.specs.Symmetry.{lowest_ends}
use Rattle.symmetry.proofs.Sizes.{alone, point_divisor}
use Rattle.std.proofs.Common.{rules}
use Rattle.symmetry.proofs.lowest_ends.Goals as goal

-- an end, as the words hold it
module _ {x0 x1 : ℤ} (h0 : Near 200 x0) (h1 : Near 200 x1) where
  same : alone (held x0) (held x1) ≡ alone x0 x1
  same = four_equal (back h0 tt) (back h1 tt) refl refl

  asked : Point (record { z0 = x0; z1 = x1 }) → (Within 200000000000 (alone (held x0) (held x1))) × (0 < gcd4 (alone (held x0) (held x1)))
  asked p = rw same (record { n0 = near_le h0 tt; n1 = near_le h1 tt; n2 = record { near = search rules }; n3 = record { near = search rules } }, point_divisor p)

pub returns : goal.returns
unfolding lowest_ends cancel_of gcd4 gcd gcd_by
returns c =
    let r = c.requires.0 in
    let left = c.cancel.ensures.1 ∙ ap cancel_of (same r.n0 r.n1) in
    let right = c.cancel-2.ensures.1 ∙ ap cancel_of (same r.n2 r.n3) in
    four_equal
    (ok_back (omega arith) ∙ ap (λ (l : List ℤ). at l 0) left)
    (ok_back (omega arith) ∙ ap (λ (l : List ℤ). at l 1) left)
    (ok_back (omega arith) ∙ ap (λ (l : List ℤ). at l 0) right)
    (ok_back (omega arith) ∙ ap (λ (l : List ℤ). at l 1) right)

pub cancel-requires : goal.cancel-requires
cancel-requires c = let r = c.requires in asked r.0.n0 r.0.n1 (left_point r.1)

pub cancel-requires-2 : goal.cancel-requires-2
cancel-requires-2 c = let r = c.requires in asked r.0.n2 r.0.n3 (right_point r.1)

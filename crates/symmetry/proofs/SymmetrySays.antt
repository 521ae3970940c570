-- What turning and reflecting say of points. A turned digit is the digit seen through R: cancelling changes no point, and R keeps what is inside. A reflected one is the digit
-- seen through x ↦ −x, which turns the direction round: what was between the ends stays between them because the ends change over.
use Rattle.whole.proofs.Laws.{◌≡◌, sym, ◌∙◌, ap₂, subst, List, up<, ℤ, pos, ◌*ℤ◌, ◌<ℤ◌, gcd_by, gcd, gcd4, gcd_divides_left, gcd_divides_right, quot_exact, ps_mul, ◌⊗◌, ⊝◌, #, ◌≗◌, law}
use Rattle.plane.proofs.Laws.{Pair, Point, SamePoint, Interval, SameEnds, det_e, det, left, right, apply, multiply_of, pseudoinverse_of, image_of, cancel_of, scale_pair, pair_equal, det_apply, determinant_of, apply_multiply, cancel_says, interval_moves, left_point, right_point, inside_moves, inside_back, inside_ends, inside_ends_back, same_multiple, above_not_0}
use Rattle.symmetry.specs.Row.{transformation_in, interval_in, Turnable}
use Rattle.symmetry.specs.Symmetry.{lowest, divisor_of_two, lowest_ends, rotation, conjugated, mirror, turned, reflected}
use Rattle.symmetry.specs.Says.{TurnedSays, ReflectedSays}
use Rattle.symmetry.proofs.Sizes.{conjugated_above, rotation_above, point_divisor}

-- ---- lowest terms

-- the divisor times a pair in lowest terms is the pair
pub lowest_times : (z : Pair) → z ≡ scale_pair (pos (divisor_of_two z)) (lowest z)
unfolding scale_pair
lowest_times z = pair_equal (sym (quot_exact z.z0 (divisor_of_two z) (gcd_divides_left _ _))) (sym (quot_exact z.z1 (divisor_of_two z) (gcd_divides_right _ _)))

divisor_above_0 : {z : Pair} → Point z → pos 0 <ℤ pos (divisor_of_two z)
unfolding gcd_by gcd gcd4
divisor_above_0 p = up< (point_divisor p)

-- so it is the same point
pub lowest_same : {z : Pair} → Point z → SamePoint (lowest z) z
lowest_same {z} p = same_multiple (pos (divisor_of_two z)) (above_not_0 (divisor_above_0 p)) (lowest_times z)

-- and of an interval the same interval
lowest_ends_lem : {w : List ℤ} → Interval w → SameEnds (lowest_ends w) w
unfolding lowest_ends
lowest_ends_lem {w} i = record {
  k = pos (divisor_of_two (left w));
  l = pos (divisor_of_two (right w));
  together = ps_mul (divisor_above_0 (left_point i)) (divisor_above_0 (right_point i));
  lefts = lowest_times (left w);
  rights = lowest_times (right w);
}

-- ---- turning

pub turned_says : {r : List ℤ} → Turnable r → TurnedSays r
unfolding turned
turned_says {r} t = record {
  transformation = λ z. subst (λ y. SamePoint (apply (cancel_of (conjugated f)) z) y) (names z) ((cancel_says (conjugated f) (conjugated_above t.above).above).same z);
  inside = λ z. (
    λ i. inside_ends_back (lowest_ends_lem moved) (inside_moves rotation_above i),
    λ i. inside_back rotation_above (inside_ends (lowest_ends_lem moved) i),
  );
}
  where
    f : List ℤ
    f = transformation_in r

    moved : Interval (image_of rotation (interval_in r))
    moved = interval_moves rotation_above t.interval

    names : (z : Pair) → apply (conjugated f) z ≡ apply rotation (apply f (apply (pseudoinverse_of rotation) z))
    names z = apply_multiply (multiply_of rotation f) (pseudoinverse_of rotation) z ∙ apply_multiply rotation f _

-- ---- reflecting

-- det(−y, −z)·det(−z, −x) is det(x, z)·det(z, y): each factor changes its sign, and they change places
between_mirrored : (x y z : Pair) → det (apply mirror y) (apply mirror z) *ℤ det (apply mirror z) (apply mirror x) ≡ det x z *ℤ det z y
unfolding determinant_of
between_mirrored x y z =
    ap₂ ◌*ℤ◌ (det_apply mirror y z) (det_apply mirror z x) ∙
    law 6 (λ a b c d e f. (⊝ # 1 ⊗ det_e c d e f) ⊗ (⊝ # 1 ⊗ det_e e f a b) ≗ det_e a b e f ⊗ det_e e f c d) tt x.z0 x.z1 y.z0 y.z1 z.z0 z.z1

pub reflected_says : (r : List ℤ) → ReflectedSays r
unfolding reflected
reflected_says r = record {
  transformation = λ z. apply_multiply (multiply_of mirror (transformation_in r)) mirror z ∙ apply_multiply mirror (transformation_in r) (apply mirror z);
  inside = λ z. (
    λ i. record { above = subst (λ n. pos 0 <ℤ n) (sym (same z)) i.above },
    λ i. record { above = subst (λ n. pos 0 <ℤ n) (same z) i.above },
  );
}
  where
    same : (z : Pair) → det (apply mirror (right (interval_in r))) (apply mirror z) *ℤ det (apply mirror z) (apply mirror (left (interval_in r))) ≡
        det (left (interval_in r)) z *ℤ det z (right (interval_in r))
    same z = between_mirrored (left (interval_in r)) (right (interval_in r)) z

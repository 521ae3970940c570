-- A matrix of determinant above 0 keeps what document 01 says of points and intervals: z is inside W exactly if its image is inside W's image, the same for closed, the
-- image of an interval is an interval, and the image of a point is a point.
-- The argument: every determinant of two images is the matrix's determinant D times that of the two pairs (`det_apply`), so the product that says "inside" grows by D·D
-- and keeps its sign. For points: the pseudoinverse leads back from the image to D times the point.
use Rattle.whole.proofs.Laws.{◌≡◌, sym, ◌∙◌, subst, List, ℤ, pos, ◌+ℤ◌, ◌*ℤ◌, ◌<ℤ◌, at, ◌⊕◌, ◌⊗◌, #, ◌≗◌, law, ps_mul, ◌≺◌, ◌≈◌, never, h, ◌⊡◌, linear, ◌&◌, ◌⇒◌, ◌from◌, claim}
use Rattle.plane.specs.Plane.{Pair, Point, det, left, right, apply, determinant_of, pseudoinverse_of, multiply_of, image_of, Interval, Inside, Closed}
use Rattle.plane.specs.Scale.{scale_pair, DetAbove, SameSign}
use Rattle.plane.proofs.SameSign.{grown, sign_back, sign_not_below, above_not_0, cancel_not_0}
use Rattle.plane.proofs.Identities.{det_e, det_apply, determinant_multiply, determinant_pseudoinverse, pseudoinverse_apply}

-- ---- the matrices that keep

pub det_above_multiply : {m n : List ℤ} → DetAbove m → DetAbove n → DetAbove (multiply_of m n)
det_above_multiply {m} {n} p q = record { above = subst (λ (d : ℤ). pos 0 <ℤ d) (sym (determinant_multiply m n)) (ps_mul p.above q.above) }

pub det_above_pseudoinverse : {m : List ℤ} → DetAbove m → DetAbove (pseudoinverse_of m)
det_above_pseudoinverse {m} p = record { above = subst (λ (d : ℤ). pos 0 <ℤ d) (sym (determinant_pseudoinverse m)) p.above }

-- ---- intervals, inside and closed

-- the product that decides
abbrev pub between : List ℤ → Pair → ℤ
between w z = det (left w) z *ℤ det z (right w)

pub inside_sign : {w v : List ℤ} {z y : Pair} → SameSign (between w z) (between v y) → Inside w z → Inside v y
inside_sign s i = record { above = s.above i.above }

pub closed_sign : {w v : List ℤ} {z y : Pair} → SameSign (between w z) (between v y) → Closed w z → Closed v y
closed_sign s i = record { not_below = sign_not_below s i.not_below }

pub between_moves : {m : List ℤ} → DetAbove m → (w : List ℤ) (z : Pair) → SameSign (between w z) (between (image_of m w) (apply m z))
unfolding image_of
between_moves {m} k w z =
    let d = determinant_of m in
    grown (d *ℤ d) (ps_mul k.above k.above)
    (law 3 (λ d a b. d ⊗ d ⊗ (a ⊗ b) ≗ d ⊗ a ⊗ (d ⊗ b)) tt d (det (left w) z) (det z (right w)) ∙
    sym (λ i. det_apply m (left w) z i *ℤ det_apply m z (right w) i))

pub inside_moves : {m w : List ℤ} {z : Pair} → DetAbove m → Inside w z → Inside (image_of m w) (apply m z)
inside_moves {w = w} {z = z} k = inside_sign (between_moves k w z)

pub inside_back : {m w : List ℤ} {z : Pair} → DetAbove m → Inside (image_of m w) (apply m z) → Inside w z
inside_back {w = w} {z = z} k = inside_sign (sign_back (between_moves k w z))

pub closed_moves : {m w : List ℤ} {z : Pair} → DetAbove m → Closed w z → Closed (image_of m w) (apply m z)
closed_moves {w = w} {z = z} k = closed_sign (between_moves k w z)

pub closed_back : {m w : List ℤ} {z : Pair} → DetAbove m → Closed (image_of m w) (apply m z) → Closed w z
closed_back {w = w} {z = z} k = closed_sign (sign_back (between_moves k w z))

ends_move : {m : List ℤ} → DetAbove m → (w : List ℤ) → SameSign (det (left w) (right w)) (det (left (image_of m w)) (right (image_of m w)))
unfolding image_of
ends_move {m} k w = grown (determinant_of m) k.above (sym (det_apply m (left w) (right w)))

pub interval_moves : {m w : List ℤ} → DetAbove m → Interval w → Interval (image_of m w)
interval_moves {w = w} k i = record { below = (ends_move k w).below i.below }

pub interval_back : {m w : List ℤ} → DetAbove m → Interval (image_of m w) → Interval w
interval_back {w = w} k i = record { below = (sign_back (ends_move k w)).below i.below }

-- ---- points

-- the ends of an interval
pub left_point : {w : List ℤ} → Interval w → Point (left w)
left_point {w} p = record {
  not_both =
      claim 4 (λ a b c d. det_e a b c d ≺ # 0 ⇒ a ≈ # 0 ⇒ b ≈ # 0 ⇒ never from linear & d ⊡ h 2 & c ⊡ h 3) tt (at w 0) (at w 1) (at w 2) (at w 3) p.below;
}

pub right_point : {w : List ℤ} → Interval w → Point (right w)
right_point {w} p = record {
  not_both =
      claim 4 (λ a b c d. det_e a b c d ≺ # 0 ⇒ c ≈ # 0 ⇒ d ≈ # 0 ⇒ never from linear & b ⊡ h 2 & a ⊡ h 3) tt (at w 0) (at w 1) (at w 2) (at w 3) p.below;
}

-- a matrix sends (0, 0) to (0, 0): what is sent to a point is a point, whatever the determinant
pub point_back : (m : List ℤ) {z : Pair} → Point (apply m z) → Point z
unfolding apply
point_back m {z} p = record { not_both = λ e f. p.not_both (nought (at m 0) (at m 1) e f) (nought (at m 2) (at m 3) e f) }
  where
    nought : (a b : ℤ) → z.z0 ≡ pos 0 → z.z1 ≡ pos 0 → a *ℤ z.z0 +ℤ b *ℤ z.z1 ≡ pos 0
    nought a b = claim 4 (λ a b x y. x ≈ # 0 ⇒ y ≈ # 0 ⇒ a ⊗ x ⊕ b ⊗ y ≈ # 0 from linear & a ⊡ h 1 & b ⊡ h 2) tt a b z.z0 z.z1

pub point_scale : (k : ℤ) {z : Pair} → (k ≡ pos 0 → ⊥) → Point z → Point (scale_pair k z)
unfolding scale_pair
point_scale k f p = record { not_both = λ e g. p.not_both (cancel_not_0 f e) (cancel_not_0 f g) }

pub point_moves : {m : List ℤ} {z : Pair} → DetAbove m → Point z → Point (apply m z)
point_moves {m} {z} k p =
    point_back (pseudoinverse_of m) (subst Point (sym (pseudoinverse_apply m z)) (point_scale (determinant_of m) (above_not_0 k.above) p))

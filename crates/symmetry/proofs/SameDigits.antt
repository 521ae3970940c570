-- Rows of one and the same digit: the relation goes both ways and on, and turned or reflected they are still one digit.
use Rattle.whole.proofs.Laws.{◌≡◌, refl, sym, ◌∙◌, ap, List, ◌↔◌, ℤ, pos, negsuc, ◌*ℤ◌, lt_z_yes, ◌⊗◌, #, ◌≺◌, ◌≈◌, h, ◌⊡◌, linear, quadratic, ◌&◌, ◌⇒◌, ◌from◌, claim}
use Rattle.plane.proofs.Laws.{Pair, Point, SamePoint, det_e, det, between, Inside, inside_sign, same_sign, sign_back, square_above, product_not_0, Interval, left, right, apply, multiply_of, cancel_of, scale_pair, left_point, right_point, point_moves, point_same, same_refl, same_sym, same_trans, same_moves, same_multiple, below_not_0}
use Rattle.symmetry.specs.Row.{transformation_in, interval_in}
use Rattle.symmetry.specs.Symmetry.{lowest, rotation, conjugated, mirror, turned, reflected}
use Rattle.symmetry.specs.Says.{SameDigit}
use Rattle.symmetry.proofs.Sizes.{rotation_above}
use Rattle.symmetry.proofs.SymmetrySays.{lowest_same}

-- ---- which rows are

pub digit_refl : (r : List ℤ) → SameDigit r r
digit_refl r = record { transformation = refl; lefts = same_refl _; rights = same_refl _ }

pub digit_sym : {r s : List ℤ} → SameDigit r s → SameDigit s r
digit_sym d = record { transformation = sym d.transformation; lefts = same_sym d.lefts; rights = same_sym d.rights }

pub digit_trans : {r s t : List ℤ} → SameDigit r s → SameDigit s t → SameDigit r t
digit_trans d e = record {
  transformation = d.transformation ∙ e.transformation;
  lefts = same_trans d.lefts e.lefts;
  rights = same_trans d.rights e.rights;
}

-- the interval with the other sign at both ends
pub digit_signs : {r s : List ℤ} → transformation_in r ≡ transformation_in s →
    left (interval_in s) ≡ scale_pair (negsuc 0) (left (interval_in r)) → right (interval_in s) ≡ scale_pair (negsuc 0) (right (interval_in r)) → SameDigit r s
digit_signs e f g = record { transformation = e; lefts = same_multiple (negsuc 0) not_0 f; rights = same_multiple (negsuc 0) not_0 g }
  where
    not_0 : negsuc 0 ≡ pos 0 → ⊥
    not_0 = below_not_0 (lt_z_yes tt)

-- ---- turned and reflected

-- R(x) and R(y) in lowest terms, of one and the same point
moved : {x y : Pair} → Point x → SamePoint x y → SamePoint (lowest (apply rotation x)) (lowest (apply rotation y))
moved {x} {y} p s =
    let q = point_moves rotation_above p in
    let t = same_moves rotation s in
    same_trans (lowest_same q) (same_trans t (same_sym (lowest_same (point_same t q))))

pub digit_turned : {r s : List ℤ} → Interval (interval_in r) → SameDigit r s → SameDigit (turned r) (turned s)
unfolding turned
digit_turned i d = record {
  transformation = ap (λ (f : List ℤ). cancel_of (conjugated f)) d.transformation;
  lefts = moved (left_point i) d.lefts;
  rights = moved (right_point i) d.rights;
}

pub digit_reflected : {r s : List ℤ} → SameDigit r s → SameDigit (reflected r) (reflected s)
unfolding reflected
digit_reflected d = record {
  transformation = ap (λ (f : List ℤ). multiply_of (multiply_of mirror f) mirror) d.transformation;
  lefts = same_moves mirror d.rights;
  rights = same_moves mirror d.lefts;
}

-- ---- the same ends make the same interval

-- k·x = m·x' gives k·det(x, z) = m·det(x', z)
left_scaled : {x x' : Pair} (s : SamePoint x x') (z : Pair) → s.k *ℤ det x z ≡ s.l *ℤ det x' z
left_scaled {x} {x'} s z = claim 8 (λ k m a b c d e f. k ⊗ a ≈ m ⊗ c ⇒ k ⊗ b ≈ m ⊗ d ⇒ k ⊗ det_e a b e f ≈ m ⊗ det_e c d e f from linear & f ⊡ h 1 & e ⊡ h 2) tt
    s.k s.l x.z0 x.z1 x'.z0 x'.z1 z.z0 z.z1 s.same0 s.same1

right_scaled : {y y' : Pair} (s : SamePoint y y') (z : Pair) → s.k *ℤ det z y ≡ s.l *ℤ det z y'
right_scaled {y} {y'} s z = claim 8 (λ k m a b c d e f. k ⊗ a ≈ m ⊗ c ⇒ k ⊗ b ≈ m ⊗ d ⇒ k ⊗ det_e e f a b ≈ m ⊗ det_e e f c d from linear & f ⊡ h 1 & e ⊡ h 2) tt
    s.k s.l y.z0 y.z1 y'.z0 y'.z1 z.z0 z.z1 s.same0 s.same1

-- with both g·det(x, y) = c·det(x', y') for g = k·p and c = m·q, so that g and c have one sign if both are intervals; and g·(det(x, z)·det(z, y)) is c times the same of x', y'
pub digit_inside : {r s : List ℤ} → Interval (interval_in r) → Interval (interval_in s) → SameDigit r s → (z : Pair) → Inside (interval_in r) z ↔ Inside (interval_in s) z
digit_inside {r} {s} i j d z =
    let v = interval_in r in
    let w = interval_in s in
    let x = d.lefts in
    let y = d.rights in
    let g = x.k *ℤ y.k in
    let c = x.l *ℤ y.l in
    let sizes : g *ℤ g *ℤ det (left v) (right v) ≡ g *ℤ c *ℤ det (left w) (right w) =
    claim 7 (λ k m p q a b e. k ⊗ a ≈ m ⊗ b ⇒ p ⊗ b ≈ q ⊗ e ⇒ k ⊗ p ⊗ (k ⊗ p) ⊗ a ≈ k ⊗ p ⊗ (m ⊗ q) ⊗ e from linear & (k ⊗ p ⊗ p) ⊡ h 1 & (k ⊗ p ⊗ m) ⊡ h 2) tt
    x.k x.l y.k y.l (det (left v) (right v)) (det (left w) (right v)) (det (left w) (right w)) (left_scaled x (right v)) (right_scaled y (left w)) in
    let products : g *ℤ g *ℤ between v z ≡ g *ℤ c *ℤ between w z =
    claim 8 (λ k m p q a b e f. k ⊗ a ≈ m ⊗ b ⇒ p ⊗ e ≈ q ⊗ f ⇒ k ⊗ p ⊗ (k ⊗ p) ⊗ (a ⊗ e) ≈ k ⊗ p ⊗ (m ⊗ q) ⊗ (b ⊗ f)
    from linear & (k ⊗ p ⊗ p ⊗ e) ⊡ h 1 & (k ⊗ p ⊗ m ⊗ b) ⊡ h 2) tt
    x.k x.l y.k y.l (det (left v) z) (det (left w) z) (det z (right v)) (det z (right w)) (left_scaled x z) (right_scaled y z) in
    let square = square_above g (product_not_0 x.k_not_0 y.k_not_0) in
    let above = claim 4 (λ n m a b. # 0 ≺ n ⇒ a ≺ # 0 ⇒ b ≺ # 0 ⇒ n ⊗ a ≈ m ⊗ b ⇒ # 0 ≺ m from quadratic) tt
    (g *ℤ g) (g *ℤ c) (det (left v) (right v)) (det (left w) (right w)) square i.below j.below sizes in
    let sign = same_sign (g *ℤ g) (g *ℤ c) square above products in
    (inside_sign sign, inside_sign (sign_back sign))

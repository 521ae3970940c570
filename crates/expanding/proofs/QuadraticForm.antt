-- The growth is a quadratic form. At α·x + β·y it is α²·Q(x, x) + 2·α·β·Q(x, y) + β²·Q(y, y) (`growth_mix`). It is what the sentence compares (`growth_is`). And where det F > 0
-- it is nowhere definite: Q(x, x)·Q(y, y) ≤ Q(x, y)² (`growth_turns`), since the difference is det F·((a − d)² + (b + c)²)·det(x, y)².
use Rattle.whole.proofs.Laws.{◌≡◌, sym, ◌∙◌, ap, List, ℤ, pos, ◌-ℤ◌, ◌*ℤ◌, ◌≤ℤ◌, ◌<ℤ◌, at, E, ◌⊕◌, ◌⊖◌, ◌⊗◌, ⊝◌, #, ◌≗◌, law, ◌≦◌, ◌≺◌, h, sq, ◌⊞◌, ◌⊠◌, ◌⇒◌, ◌by◌, claim}
use Rattle.plane.proofs.Laws.{Pair, det, apply, determinant_of, pseudoinverse_of, scale_pair, det_e, mix, cramer}
use Rattle.expanding.specs.Expanding.{stretched, sent, form_of, growth_of}
use Rattle.expanding.proofs.ThreeNumbers.{sum}

-- x·(q·y) as the provers read it, and with the q of F = [a, b, c, d]
abbrev form_e : E → E → E → E → E → E → E → E → E
form_e p r s q x0 x1 y0 y1 = x0 ⊗ (p ⊗ y0 ⊕ r ⊗ y1) ⊕ x1 ⊗ (s ⊗ y0 ⊕ q ⊗ y1)

abbrev growth_e : E → E → E → E → E → E → E → E → E
growth_e a b c d x0 x1 y0 y1 = form_e (det_e a b c d ⊖ (c ⊗ c ⊕ d ⊗ d)) (a ⊗ c ⊕ b ⊗ d) (c ⊗ a ⊕ d ⊗ b) (det_e a b c d ⊖ (a ⊗ a ⊕ b ⊗ b)) x0 x1 y0 y1

pub growth_mix : (f : List ℤ) (α β : ℤ) (x y : Pair) → growth_of f (mix α β x y) (mix α β x y) ≡ sum α β (growth_of f x x) (growth_of f x y) (growth_of f y y)
unfolding form_of apply determinant_of
growth_mix f α β x y = law 10 (λ a b c d α β x0 x1 y0 y1.
    growth_e a b c d (α ⊗ x0 ⊕ β ⊗ y0) (α ⊗ x1 ⊕ β ⊗ y1) (α ⊗ x0 ⊕ β ⊗ y0) (α ⊗ x1 ⊕ β ⊗ y1) ≗
    α ⊗ α ⊗ growth_e a b c d x0 x1 x0 x1 ⊕ # 2 ⊗ (α ⊗ β ⊗ growth_e a b c d x0 x1 y0 y1) ⊕ β ⊗ β ⊗ growth_e a b c d y0 y1 y0 y1) tt
    (at f 0) (at f 1) (at f 2) (at f 3) α β x.z0 x.z1 y.z0 y.z1

growth_scale : (f : List ℤ) (k : ℤ) (z : Pair) → growth_of f (scale_pair k z) (scale_pair k z) ≡ k *ℤ k *ℤ growth_of f z z
unfolding apply scale_pair
growth_scale f k z = law 7 (λ p r s q k x y. form_e p r s q (k ⊗ x) (k ⊗ y) (k ⊗ x) (k ⊗ y) ≗ k ⊗ k ⊗ form_e p r s q x y x y) tt
    (at (form_of f) 0) (at (form_of f) 1) (at (form_of f) 2) (at (form_of f) 3) k z.z0 z.z1

-- det(x, y)·z is a mixture of x and y
pub growth_cramer : (f : List ℤ) (x y z : Pair) →
    det x y *ℤ det x y *ℤ growth_of f z z ≡ sum (det z y) (det x z) (growth_of f x x) (growth_of f x y) (growth_of f y y)
growth_cramer f x y z = sym (growth_scale f (det x y) z) ∙ ap (λ (v : Pair). growth_of f v v) (cramer x y z) ∙ growth_mix f (det z y) (det x z) x y

pub growth_is : (f : List ℤ) (z : Pair) → growth_of f z z ≡ stretched f z -ℤ sent f z
unfolding form_of apply determinant_of pseudoinverse_of
growth_is f z = law 6 (λ a b c d x y.
    growth_e a b c d x y x y ≗ det_e a b c d ⊗ (x ⊗ x ⊕ y ⊗ y) ⊖ ((d ⊗ x ⊕ ⊝ b ⊗ y) ⊗ (d ⊗ x ⊕ ⊝ b ⊗ y) ⊕ (⊝ c ⊗ x ⊕ a ⊗ y) ⊗ (⊝ c ⊗ x ⊕ a ⊗ y))) tt
    (at f 0) (at f 1) (at f 2) (at f 3) z.z0 z.z1

pub growth_turns : (f : List ℤ) (x y : Pair) → pos 0 <ℤ determinant_of f → (growth_of f x x *ℤ growth_of f y y) ≤ℤ (growth_of f x y *ℤ growth_of f x y)
unfolding form_of apply determinant_of
growth_turns f x y = claim 8 (λ a b c d x0 x1 y0 y1.
    # 0 ≺ det_e a b c d ⇒ growth_e a b c d x0 x1 x0 x1 ⊗ growth_e a b c d y0 y1 y0 y1 ≦ growth_e a b c d x0 x1 y0 y1 ⊗ growth_e a b c d x0 x1 y0 y1
    by h 0 ⊞ h 1 ⊠ (sq (a ⊖ d) ⊞ sq (b ⊕ c)) ⊠ sq (det_e x0 x1 y0 y1)) tt
    (at f 0) (at f 1) (at f 2) (at f 3) x.z0 x.z1 y.z0 y.z1

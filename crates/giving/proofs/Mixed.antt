-- What eight numbers make of two points is linear in each of the points. So, by Cramer's rule, the image of a point of an interval is mixed from the images of the interval's ends
-- (`mixed_first`, `mixed_second`); and the coefficients of a mixture in the ends of an interval are mixed likewise.
use Rattle.whole.proofs.Laws.{◌≡◌, List, ℤ, ◌+ℤ◌, ◌*ℤ◌, at, E, ◌⊕◌, ◌⊗◌, ◌≗◌, law}
use Rattle.plane.proofs.Laws.{Pair, det, left, right, scale_pair, pair_equal, det_e, mix, cramer}
use Rattle.bilinear.proofs.Laws.{Form, on_two, apply_two}

-- "written in the two ends of U_c": det(l, r)·z = det(z, r)·l + det(l, z)·r, where l and r are the ends of u
pub in_the_ends : (u : List ℤ) (z : Pair) → scale_pair (det (left u) (right u)) z ≡ mix (det z (right u)) (det (left u) z) (left u) (right u)
in_the_ends u z = cramer (left u) (right u) z

-- ---- the image of a mixture

abbrev on_two_e : E → E → E → E → E → E → E → E → E
on_two_e a b c d x0 x1 y0 y1 = a ⊗ (x0 ⊗ y0) ⊕ b ⊗ (x0 ⊗ y1) ⊕ c ⊗ (x1 ⊗ y0) ⊕ d ⊗ (x1 ⊗ y1)

-- det(l, r)·X(x, y) = det(x, r)·X(l, y) + det(l, x)·X(r, y), of four coefficients
row_first : (n : List ℤ) (l r x y : Pair) → det l r *ℤ on_two n x y ≡ det x r *ℤ on_two n l y +ℤ det l x *ℤ on_two n r y
unfolding on_two
row_first n l r x y = law 12 (λ a b c d l m r s x0 x1 y0 y1.
    det_e l m r s ⊗ on_two_e a b c d x0 x1 y0 y1 ≗ det_e x0 x1 r s ⊗ on_two_e a b c d l m y0 y1 ⊕ det_e l m x0 x1 ⊗ on_two_e a b c d r s y0 y1) tt
    (at n 0) (at n 1) (at n 2) (at n 3) l.z0 l.z1 r.z0 r.z1 x.z0 x.z1 y.z0 y.z1

row_second : (n : List ℤ) (l r x y : Pair) → det l r *ℤ on_two n x y ≡ det y r *ℤ on_two n x l +ℤ det l y *ℤ on_two n x r
unfolding on_two
row_second n l r x y = law 12 (λ a b c d l m r s x0 x1 y0 y1.
    det_e l m r s ⊗ on_two_e a b c d x0 x1 y0 y1 ≗ det_e y0 y1 r s ⊗ on_two_e a b c d x0 x1 l m ⊕ det_e l m y0 y1 ⊗ on_two_e a b c d x0 x1 r s) tt
    (at n 0) (at n 1) (at n 2) (at n 3) l.z0 l.z1 r.z0 r.z1 x.z0 x.z1 y.z0 y.z1

module _ (m : Form) (l r x y : Pair) where
  pub mixed_first : scale_pair (det l r) (apply_two m x y) ≡ mix (det x r) (det l x) (apply_two m l y) (apply_two m r y)
  unfolding scale_pair apply_two
  mixed_first = pair_equal (row_first m.numerator l r x y) (row_first m.denominator l r x y)

  pub mixed_second : scale_pair (det l r) (apply_two m x y) ≡ mix (det y r) (det l y) (apply_two m x l) (apply_two m x r)
  unfolding scale_pair apply_two
  mixed_second = pair_equal (row_second m.numerator l r x y) (row_second m.denominator l r x y)

pub scale_mix : (k α β : ℤ) (p q : Pair) → scale_pair k (mix α β p q) ≡ mix α β (scale_pair k p) (scale_pair k q)
unfolding scale_pair
scale_mix k α β p q = pair_equal (number p.z0 q.z0) (number p.z1 q.z1)
  where
    number : (a b : ℤ) → k *ℤ (α *ℤ a +ℤ β *ℤ b) ≡ α *ℤ (k *ℤ a) +ℤ β *ℤ (k *ℤ b)
    number a b = law 5 (λ k α β a b. k ⊗ (α ⊗ a ⊕ β ⊗ b) ≗ α ⊗ (k ⊗ a) ⊕ β ⊗ (k ⊗ b)) tt k α β a b

-- ---- the two coefficients of a mixture

module _ (α β : ℤ) (p q e : Pair) where
  pub first_mixed : α *ℤ det p e +ℤ β *ℤ det q e ≡ det (mix α β p q) e
  first_mixed = law 8 (λ α β a b c d e f. α ⊗ det_e a b e f ⊕ β ⊗ det_e c d e f ≗ det_e (α ⊗ a ⊕ β ⊗ c) (α ⊗ b ⊕ β ⊗ d) e f) tt
      α β p.z0 p.z1 q.z0 q.z1 e.z0 e.z1

  pub second_mixed : α *ℤ det e p +ℤ β *ℤ det e q ≡ det e (mix α β p q)
  second_mixed = law 8 (λ α β a b c d e f. α ⊗ det_e e f a b ⊕ β ⊗ det_e e f c d ≗ det_e e f (α ⊗ a ⊕ β ⊗ c) (α ⊗ b ⊕ β ⊗ d)) tt
      α β p.z0 p.z1 q.z0 q.z1 e.z0 e.z1

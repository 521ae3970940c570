-- The identities of points and matrices (document 01, "Points, matrices, intervals"): what determinants, products, pseudoinverses and multiples have to do with each
-- other. Each is an identity of whole numbers, entry by entry, which the ring solver `law` proves; an equation of pairs or of matrices is put together from its entries.
-- What is said here of matrices is said once for a row (a, b) of the first factor and a column (x, y) of the last, and used for all of them.
use Rattle.whole.proofs.Laws.{◌≡◌, refl, sym, ◌∙◌, ap, List, [], ◌∷◌, arith, length, ℤ, pos, neg_ℤ, ◌+ℤ◌, ◌*ℤ◌, at, E, ◌⊕◌, ◌⊖◌, ◌⊗◌, ⊝◌, #, ◌≗◌, law}
use Rattle.plane.specs.Plane.{Pair, det, apply, determinant_of, pseudoinverse_of, multiply_of}
use Rattle.plane.specs.Scale.{entries, scale_pair, scale_of, identity_of}

-- ---- pairs and matrices are equal by their entries

pub pair_equal : {x y : Pair} → x.z0 ≡ y.z0 → x.z1 ≡ y.z1 → x ≡ y
pair_equal p q = λ i. record { z0 = p i; z1 = q i }

pub four_equal : {a b c d e f g h : ℤ} → a ≡ e → b ≡ f → c ≡ g → d ≡ h → (a ∷ b ∷ c ∷ d ∷ []) ≡ (e ∷ f ∷ g ∷ h ∷ [])
four_equal p q r s = λ i. p i ∷ q i ∷ r i ∷ s i ∷ []

-- a list of four is its four entries
pub four : (m : List ℤ) → length m ≡ 4 → m ≡ entries m
four [] e = absurd (omega arith)
four (a ∷ []) e = absurd (omega arith)
four (a ∷ b ∷ []) e = absurd (omega arith)
four (a ∷ b ∷ c ∷ []) e = absurd (omega arith)
four (a ∷ b ∷ c ∷ d ∷ []) e = refl
four (a ∷ b ∷ c ∷ d ∷ f ∷ m) e = absurd (omega arith)

-- ---- determinants of pairs

-- a ⊗ d ⊖ b ⊗ c: a determinant, as the solver reads it
abbrev pub det_e : E → E → E → E → E
det_e a b c d = a ⊗ d ⊖ b ⊗ c

pub det_turned : (x y : Pair) → det x y ≡ neg_ℤ (det y x)
det_turned x y = law 4 (λ a b c d. det_e a b c d ≗ ⊝ (det_e c d a b)) tt x.z0 x.z1 y.z0 y.z1

pub det_self : (x : Pair) → det x x ≡ pos 0
det_self x = law 2 (λ a b. det_e a b a b ≗ # 0) tt x.z0 x.z1

pub three_terms : (x y z w : Pair) → det x y *ℤ det z w ≡ det z y *ℤ det x w +ℤ det x z *ℤ det y w
three_terms x y z w =
    law 8 (λ a b c d e f g h. det_e a b c d ⊗ det_e e f g h ≗ det_e e f c d ⊗ det_e a b g h ⊕ det_e a b e f ⊗ det_e c d g h) tt
    x.z0 x.z1 y.z0 y.z1 z.z0 z.z1 w.z0 w.z1

pub det_scale : (k l : ℤ) (x y : Pair) → det (scale_pair k x) (scale_pair l y) ≡ k *ℤ l *ℤ det x y
unfolding scale_pair
det_scale k l x y = law 6 (λ k l a b c d. det_e (k ⊗ a) (k ⊗ b) (l ⊗ c) (l ⊗ d) ≗ k ⊗ l ⊗ det_e a b c d) tt k l x.z0 x.z1 y.z0 y.z1

-- ---- determinants of matrices

pub det_apply : (m : List ℤ) (p q : Pair) → det (apply m p) (apply m q) ≡ determinant_of m *ℤ det p q
unfolding apply determinant_of
det_apply m p q =
    law 8 (λ a b c d e f g h. det_e (a ⊗ e ⊕ b ⊗ f) (c ⊗ e ⊕ d ⊗ f) (a ⊗ g ⊕ b ⊗ h) (c ⊗ g ⊕ d ⊗ h) ≗ det_e a b c d ⊗ det_e e f g h) tt
    (at m 0) (at m 1) (at m 2) (at m 3) p.z0 p.z1 q.z0 q.z1

pub determinant_multiply : (m n : List ℤ) → determinant_of (multiply_of m n) ≡ determinant_of m *ℤ determinant_of n
unfolding multiply_of determinant_of
determinant_multiply m n =
    law 8 (λ a b c d e f g h. det_e (a ⊗ e ⊕ b ⊗ g) (a ⊗ f ⊕ b ⊗ h) (c ⊗ e ⊕ d ⊗ g) (c ⊗ f ⊕ d ⊗ h) ≗ det_e a b c d ⊗ det_e e f g h) tt
    (at m 0) (at m 1) (at m 2) (at m 3) (at n 0) (at n 1) (at n 2) (at n 3)

pub determinant_pseudoinverse : (m : List ℤ) → determinant_of (pseudoinverse_of m) ≡ determinant_of m
unfolding pseudoinverse_of determinant_of
determinant_pseudoinverse m = law 4 (λ a b c d. det_e d (⊝ b) (⊝ c) a ≗ det_e a b c d) tt (at m 0) (at m 1) (at m 2) (at m 3)

pub determinant_scale : (k : ℤ) (m : List ℤ) → determinant_of (scale_of k m) ≡ k *ℤ k *ℤ determinant_of m
unfolding scale_of determinant_of
determinant_scale k m =
    law 5 (λ k a b c d. det_e (k ⊗ a) (k ⊗ b) (k ⊗ c) (k ⊗ d) ≗ k ⊗ k ⊗ det_e a b c d) tt k (at m 0) (at m 1) (at m 2) (at m 3)

-- ---- products: a row (a, b), a matrix n between, a column (x, y)

entry : (a b : ℤ) (n : List ℤ) (x y : ℤ) →
    (a *ℤ at n 0 +ℤ b *ℤ at n 2) *ℤ x +ℤ (a *ℤ at n 1 +ℤ b *ℤ at n 3) *ℤ y ≡ a *ℤ (at n 0 *ℤ x +ℤ at n 1 *ℤ y) +ℤ b *ℤ (at n 2 *ℤ x +ℤ at n 3 *ℤ y)
entry a b n x y =
    law 8 (λ a b c d e f x y. (a ⊗ c ⊕ b ⊗ e) ⊗ x ⊕ (a ⊗ d ⊕ b ⊗ f) ⊗ y ≗ a ⊗ (c ⊗ x ⊕ d ⊗ y) ⊕ b ⊗ (e ⊗ x ⊕ f ⊗ y)) tt
    a b (at n 0) (at n 1) (at n 2) (at n 3) x y

pub apply_multiply : (m n : List ℤ) (z : Pair) → apply (multiply_of m n) z ≡ apply m (apply n z)
unfolding apply multiply_of
apply_multiply m n z = pair_equal (entry (at m 0) (at m 1) n z.z0 z.z1) (entry (at m 2) (at m 3) n z.z0 z.z1)

pub multiply_assoc : (m n k : List ℤ) → multiply_of (multiply_of m n) k ≡ multiply_of m (multiply_of n k)
unfolding multiply_of
multiply_assoc m n k = four_equal
    (entry (at m 0) (at m 1) n (at k 0) (at k 2)) (entry (at m 0) (at m 1) n (at k 1) (at k 3))
    (entry (at m 2) (at m 3) n (at k 0) (at k 2)) (entry (at m 2) (at m 3) n (at k 1) (at k 3))

-- ---- multiples: a factor k of the row or of the column comes out

scaled_row : (k a b x y : ℤ) → k *ℤ a *ℤ x +ℤ k *ℤ b *ℤ y ≡ k *ℤ (a *ℤ x +ℤ b *ℤ y)
scaled_row = law 5 (λ k a b x y. k ⊗ a ⊗ x ⊕ k ⊗ b ⊗ y ≗ k ⊗ (a ⊗ x ⊕ b ⊗ y)) tt

scaled_column : (k a b x y : ℤ) → a *ℤ (k *ℤ x) +ℤ b *ℤ (k *ℤ y) ≡ k *ℤ (a *ℤ x +ℤ b *ℤ y)
scaled_column = law 5 (λ k a b x y. a ⊗ (k ⊗ x) ⊕ b ⊗ (k ⊗ y) ≗ k ⊗ (a ⊗ x ⊕ b ⊗ y)) tt

twice : (k l a : ℤ) → k *ℤ (l *ℤ a) ≡ k *ℤ l *ℤ a
twice = law 3 (λ k l a. k ⊗ (l ⊗ a) ≗ k ⊗ l ⊗ a) tt

once : (a : ℤ) → pos 1 *ℤ a ≡ a
once = law 1 (λ a. # 1 ⊗ a ≗ a) tt

pub apply_scale : (k : ℤ) (m : List ℤ) (z : Pair) → apply (scale_of k m) z ≡ scale_pair k (apply m z)
unfolding apply scale_of scale_pair
apply_scale k m z = pair_equal (scaled_row k (at m 0) (at m 1) z.z0 z.z1) (scaled_row k (at m 2) (at m 3) z.z0 z.z1)

pub apply_scale_pair : (k : ℤ) (m : List ℤ) (z : Pair) → apply m (scale_pair k z) ≡ scale_pair k (apply m z)
unfolding apply scale_pair
apply_scale_pair k m z = pair_equal (scaled_column k (at m 0) (at m 1) z.z0 z.z1) (scaled_column k (at m 2) (at m 3) z.z0 z.z1)

pub multiply_scale_left : (k : ℤ) (m n : List ℤ) → multiply_of (scale_of k m) n ≡ scale_of k (multiply_of m n)
unfolding multiply_of scale_of
multiply_scale_left k m n = four_equal
    (scaled_row k (at m 0) (at m 1) (at n 0) (at n 2)) (scaled_row k (at m 0) (at m 1) (at n 1) (at n 3))
    (scaled_row k (at m 2) (at m 3) (at n 0) (at n 2)) (scaled_row k (at m 2) (at m 3) (at n 1) (at n 3))

pub multiply_scale_right : (k : ℤ) (m n : List ℤ) → multiply_of m (scale_of k n) ≡ scale_of k (multiply_of m n)
unfolding multiply_of scale_of
multiply_scale_right k m n = four_equal
    (scaled_column k (at m 0) (at m 1) (at n 0) (at n 2)) (scaled_column k (at m 0) (at m 1) (at n 1) (at n 3))
    (scaled_column k (at m 2) (at m 3) (at n 0) (at n 2)) (scaled_column k (at m 2) (at m 3) (at n 1) (at n 3))

pub scale_scale : (k l : ℤ) (m : List ℤ) → scale_of k (scale_of l m) ≡ scale_of (k *ℤ l) m
unfolding scale_of
scale_scale k l m = four_equal (twice k l (at m 0)) (twice k l (at m 1)) (twice k l (at m 2)) (twice k l (at m 3))

pub scale_scale_pair : (k l : ℤ) (z : Pair) → scale_pair k (scale_pair l z) ≡ scale_pair (k *ℤ l) z
unfolding scale_pair
scale_scale_pair k l z = pair_equal (twice k l z.z0) (twice k l z.z1)

pub scale_entries : (k : ℤ) (m : List ℤ) → scale_of k (entries m) ≡ scale_of k m
unfolding scale_of
scale_entries k m = refl

pub scale_one : (m : List ℤ) → scale_of (pos 1) m ≡ entries m
unfolding scale_of
scale_one m = four_equal (once (at m 0)) (once (at m 1)) (once (at m 2)) (once (at m 3))

-- ---- the identity

one_zero : (x y : ℤ) → pos 1 *ℤ x +ℤ pos 0 *ℤ y ≡ x
one_zero = law 2 (λ x y. # 1 ⊗ x ⊕ # 0 ⊗ y ≗ x) tt

zero_one : (x y : ℤ) → pos 0 *ℤ x +ℤ pos 1 *ℤ y ≡ y
zero_one = law 2 (λ x y. # 0 ⊗ x ⊕ # 1 ⊗ y ≗ y) tt

pub apply_identity : (z : Pair) → apply identity_of z ≡ z
unfolding apply
apply_identity z = pair_equal (one_zero z.z0 z.z1) (zero_one z.z0 z.z1)

pub multiply_identity_left : (m : List ℤ) → multiply_of identity_of m ≡ entries m
unfolding multiply_of
multiply_identity_left m = four_equal
    (one_zero (at m 0) (at m 2)) (one_zero (at m 1) (at m 3)) (zero_one (at m 0) (at m 2)) (zero_one (at m 1) (at m 3))

pub multiply_identity_right : (m : List ℤ) → multiply_of m identity_of ≡ entries m
unfolding multiply_of
multiply_identity_right m = four_equal (first (at m 0) (at m 1)) (second (at m 0) (at m 1)) (first (at m 2) (at m 3)) (second (at m 2) (at m 3))
  where
    first : (a b : ℤ) → a *ℤ pos 1 +ℤ b *ℤ pos 0 ≡ a
    first = law 2 (λ a b. a ⊗ # 1 ⊕ b ⊗ # 0 ≗ a) tt

    second : (a b : ℤ) → a *ℤ pos 0 +ℤ b *ℤ pos 1 ≡ b
    second = law 2 (λ a b. a ⊗ # 0 ⊕ b ⊗ # 1 ≗ b) tt

-- ---- the pseudoinverse: on either side it makes determinant times identity

pub pseudoinverse_right : (m : List ℤ) → multiply_of m (pseudoinverse_of m) ≡ scale_of (determinant_of m) identity_of
unfolding multiply_of pseudoinverse_of scale_of determinant_of
pseudoinverse_right m = four_equal
    (law 4 (λ a b c d. a ⊗ d ⊕ b ⊗ ⊝ c ≗ det_e a b c d ⊗ # 1) tt (at m 0) (at m 1) (at m 2) (at m 3))
    (law 4 (λ a b c d. a ⊗ ⊝ b ⊕ b ⊗ a ≗ det_e a b c d ⊗ # 0) tt (at m 0) (at m 1) (at m 2) (at m 3))
    (law 4 (λ a b c d. c ⊗ d ⊕ d ⊗ ⊝ c ≗ det_e a b c d ⊗ # 0) tt (at m 0) (at m 1) (at m 2) (at m 3))
    (law 4 (λ a b c d. c ⊗ ⊝ b ⊕ d ⊗ a ≗ det_e a b c d ⊗ # 1) tt (at m 0) (at m 1) (at m 2) (at m 3))

pub pseudoinverse_left : (m : List ℤ) → multiply_of (pseudoinverse_of m) m ≡ scale_of (determinant_of m) identity_of
unfolding multiply_of pseudoinverse_of scale_of determinant_of
pseudoinverse_left m = four_equal
    (law 4 (λ a b c d. d ⊗ a ⊕ ⊝ b ⊗ c ≗ det_e a b c d ⊗ # 1) tt (at m 0) (at m 1) (at m 2) (at m 3))
    (law 4 (λ a b c d. d ⊗ b ⊕ ⊝ b ⊗ d ≗ det_e a b c d ⊗ # 0) tt (at m 0) (at m 1) (at m 2) (at m 3))
    (law 4 (λ a b c d. ⊝ c ⊗ a ⊕ a ⊗ c ≗ det_e a b c d ⊗ # 0) tt (at m 0) (at m 1) (at m 2) (at m 3))
    (law 4 (λ a b c d. ⊝ c ⊗ b ⊕ a ⊗ d ≗ det_e a b c d ⊗ # 1) tt (at m 0) (at m 1) (at m 2) (at m 3))

-- if m·n is k times the identity, then m undoes n up to the factor k, on pairs and on matrices
undoes_pair : (m n : List ℤ) (k : ℤ) → multiply_of m n ≡ scale_of k identity_of → (z : Pair) → apply m (apply n z) ≡ scale_pair k z
undoes_pair m n k e z =
    sym (apply_multiply m n z) ∙ ap (λ (x : List ℤ). apply x z) e ∙ apply_scale k identity_of z ∙ ap (scale_pair k) (apply_identity z)

undoes : (m n : List ℤ) (k : ℤ) → multiply_of m n ≡ scale_of k identity_of → (x : List ℤ) → multiply_of m (multiply_of n x) ≡ scale_of k x
undoes m n k e x =
    sym (multiply_assoc m n x) ∙ ap (λ (y : List ℤ). multiply_of y x) e ∙ multiply_scale_left k identity_of x ∙ ap (scale_of k) (multiply_identity_left x) ∙ scale_entries k x

pub pseudoinverse_apply : (m : List ℤ) (z : Pair) → apply (pseudoinverse_of m) (apply m z) ≡ scale_pair (determinant_of m) z
pseudoinverse_apply m = undoes_pair (pseudoinverse_of m) m (determinant_of m) (pseudoinverse_left m)

pub apply_pseudoinverse : (m : List ℤ) (z : Pair) → apply m (apply (pseudoinverse_of m) z) ≡ scale_pair (determinant_of m) z
apply_pseudoinverse m = undoes_pair m (pseudoinverse_of m) (determinant_of m) (pseudoinverse_right m)

pub multiply_pseudoinverse : (m n : List ℤ) → multiply_of m (multiply_of (pseudoinverse_of m) n) ≡ scale_of (determinant_of m) n
multiply_pseudoinverse m = undoes m (pseudoinverse_of m) (determinant_of m) (pseudoinverse_right m)

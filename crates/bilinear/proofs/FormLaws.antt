-- The algebra of eight numbers on two points (document 02, T-14): what they make of two points when a digit was absorbed in x, absorbed in y or given out, how such steps
-- stand one behind the other, and how factors come out of them. So a run over two words is followed by calculating, and no step has to be opened again.
-- Each is an identity of whole numbers, entry by entry, which the ring solver `law` proves, or a law of matrices (crates/plane): four coefficients are a matrix, which
-- absorbing in y multiplies from the right and absorbing in x from the left. A list is read for its first four numbers, so where a law leaves a form as it was, it leaves
-- its `entries_form`.
use Rattle.whole.proofs.Laws.{◌≡◌, refl, sym, ◌∙◌, ap, List, ℕ, ℤ, pos, ◌+ℤ◌, ◌*ℤ◌, at, E, ◌⊕◌, ◌⊗◌, #, ◌≗◌, law}
use Rattle.plane.proofs.Laws.{Pair, apply, determinant_of, pseudoinverse_of, multiply_of, entries, scale_of, scale_pair, pair_equal, four_equal, multiply_assoc, multiply_scale_left, multiply_scale_right, multiply_identity_left, multiply_identity_right, scale_scale, scale_one, pseudoinverse_right, times_entries}
use Rattle.plane.specs.Scale.{identity_of}
use Rattle.bilinear.specs.Types.{Form}
use Rattle.bilinear.specs.Form.{on_two, apply_two, turned_over, into_x, into_y, mixed_rows, times_form, given_form}
use Rattle.bilinear.specs.Lowest.{gcd8, cancel_form, scale_form}
use Rattle.bilinear.proofs.Divisor8.{cancel_form_times}

-- ---- forms are equal by their two rows; the eight numbers that a form is read for

pub form_equal : {m n : Form} → m.numerator ≡ n.numerator → m.denominator ≡ n.denominator → m ≡ n
form_equal p q = λ i. record { numerator = p i; denominator = q i }

abbrev pub entries_form : Form → Form
entries_form m = record { numerator = entries m.numerator; denominator = entries m.denominator }

-- ---- on two points

-- four coefficients, as the solver reads them
abbrev on_two_e : E → E → E → E → E → E → E → E → E
on_two_e a b c d x0 x1 y0 y1 = a ⊗ (x0 ⊗ y0) ⊕ b ⊗ (x0 ⊗ y1) ⊕ c ⊗ (x1 ⊗ y0) ⊕ d ⊗ (x1 ⊗ y1)

row_x : (f r : List ℤ) (x y : Pair) → on_two (multiply_of (turned_over f) r) x y ≡ on_two r (apply f x) y
unfolding on_two multiply_of apply
row_x f r x y = law 12 (λ a b c d e f g h x0 x1 y0 y1.
    on_two_e (a ⊗ e ⊕ c ⊗ g) (a ⊗ f ⊕ c ⊗ h) (b ⊗ e ⊕ d ⊗ g) (b ⊗ f ⊕ d ⊗ h) x0 x1 y0 y1 ≗ on_two_e e f g h (a ⊗ x0 ⊕ b ⊗ x1) (c ⊗ x0 ⊕ d ⊗ x1) y0 y1) tt
    (at f 0) (at f 1) (at f 2) (at f 3) (at r 0) (at r 1) (at r 2) (at r 3) x.z0 x.z1 y.z0 y.z1

row_y : (f r : List ℤ) (x y : Pair) → on_two (multiply_of r f) x y ≡ on_two r x (apply f y)
unfolding on_two multiply_of apply
row_y f r x y = law 12 (λ a b c d e f g h x0 x1 y0 y1.
    on_two_e (e ⊗ a ⊕ f ⊗ c) (e ⊗ b ⊕ f ⊗ d) (g ⊗ a ⊕ h ⊗ c) (g ⊗ b ⊕ h ⊗ d) x0 x1 y0 y1 ≗ on_two_e e f g h x0 x1 (a ⊗ y0 ⊕ b ⊗ y1) (c ⊗ y0 ⊕ d ⊗ y1)) tt
    (at f 0) (at f 1) (at f 2) (at f 3) (at r 0) (at r 1) (at r 2) (at r 3) x.z0 x.z1 y.z0 y.z1

row_mixed : (k l : ℤ) (u v : List ℤ) (x y : Pair) → on_two (mixed_rows k l u v) x y ≡ k *ℤ on_two u x y +ℤ l *ℤ on_two v x y
unfolding on_two
row_mixed k l u v x y = law 14 (λ k l a b c d e f g h x0 x1 y0 y1.
    on_two_e (k ⊗ a ⊕ l ⊗ e) (k ⊗ b ⊕ l ⊗ f) (k ⊗ c ⊕ l ⊗ g) (k ⊗ d ⊕ l ⊗ h) x0 x1 y0 y1 ≗ k ⊗ on_two_e a b c d x0 x1 y0 y1 ⊕ l ⊗ on_two_e e f g h x0 x1 y0 y1) tt
    k l (at u 0) (at u 1) (at u 2) (at u 3) (at v 0) (at v 1) (at v 2) (at v 3) x.z0 x.z1 y.z0 y.z1

row_scale : (k : ℤ) (r : List ℤ) (x y : Pair) → on_two (scale_of k r) x y ≡ k *ℤ on_two r x y
unfolding on_two scale_of
row_scale k r x y = law 9 (λ k a b c d x0 x1 y0 y1. on_two_e (k ⊗ a) (k ⊗ b) (k ⊗ c) (k ⊗ d) x0 x1 y0 y1 ≗ k ⊗ on_two_e a b c d x0 x1 y0 y1) tt
    k (at r 0) (at r 1) (at r 2) (at r 3) x.z0 x.z1 y.z0 y.z1

pub apply_into_x : (m : Form) (f : List ℤ) (x y : Pair) → apply_two (into_x m f) x y ≡ apply_two m (apply f x) y
unfolding apply_two into_x
apply_into_x m f x y = pair_equal (row_x f m.numerator x y) (row_x f m.denominator x y)

pub apply_into_y : (m : Form) (f : List ℤ) (x y : Pair) → apply_two (into_y m f) x y ≡ apply_two m x (apply f y)
unfolding apply_two into_y
apply_into_y m f x y = pair_equal (row_y f m.numerator x y) (row_y f m.denominator x y)

pub apply_times : (p : List ℤ) (m : Form) (x y : Pair) → apply_two (times_form p m) x y ≡ apply p (apply_two m x y)
unfolding apply_two times_form apply
apply_times p m x y =
    pair_equal (row_mixed (at p 0) (at p 1) m.numerator m.denominator x y) (row_mixed (at p 2) (at p 3) m.numerator m.denominator x y)

pub apply_scale_form : (k : ℤ) (m : Form) (x y : Pair) → apply_two (scale_form k m) x y ≡ scale_pair k (apply_two m x y)
unfolding apply_two scale_pair
apply_scale_form k m x y = pair_equal (row_scale k m.numerator x y) (row_scale k m.denominator x y)

-- ---- one behind the other

turned_multiply : (f g : List ℤ) → multiply_of (turned_over g) (turned_over f) ≡ turned_over (multiply_of f g)
unfolding multiply_of
turned_multiply f g = four_equal (entry (at g 0) (at g 2) (at f 0) (at f 1)) (entry (at g 0) (at g 2) (at f 2) (at f 3)) (entry (at g 1) (at g 3) (at f 0) (at f 1)) (entry (at g 1) (at g 3) (at f 2) (at f 3))
  where
    entry : (a b c d : ℤ) → a *ℤ c +ℤ b *ℤ d ≡ c *ℤ a +ℤ d *ℤ b
    entry = law 4 (λ a b c d. a ⊗ c ⊕ b ⊗ d ≗ c ⊗ a ⊕ d ⊗ b) tt

pub into_x_twice : (m : Form) (f g : List ℤ) → into_x (into_x m f) g ≡ into_x m (multiply_of f g)
unfolding into_x
into_x_twice m f g = form_equal (row m.numerator) (row m.denominator)
  where
    row : (r : List ℤ) → multiply_of (turned_over g) (multiply_of (turned_over f) r) ≡ multiply_of (turned_over (multiply_of f g)) r
    row r = sym (multiply_assoc (turned_over g) (turned_over f) r) ∙ ap (λ (n : List ℤ). multiply_of n r) (turned_multiply f g)

pub into_y_twice : (m : Form) (f g : List ℤ) → into_y (into_y m f) g ≡ into_y m (multiply_of f g)
unfolding into_y
into_y_twice m f g = form_equal (multiply_assoc m.numerator f g) (multiply_assoc m.denominator f g)

pub into_y_into_x : (m : Form) (f g : List ℤ) → into_y (into_x m f) g ≡ into_x (into_y m g) f
unfolding into_x into_y
into_y_into_x m f g = form_equal (multiply_assoc (turned_over f) m.numerator g) (multiply_assoc (turned_over f) m.denominator g)

-- a mixture of mixtures
mixed_twice : (k l : ℤ) (q u v : List ℤ) →
    mixed_rows k l (mixed_rows (at q 0) (at q 1) u v) (mixed_rows (at q 2) (at q 3) u v) ≡ mixed_rows (k *ℤ at q 0 +ℤ l *ℤ at q 2) (k *ℤ at q 1 +ℤ l *ℤ at q 3) u v
mixed_twice k l q u v = four_equal (entry (at u 0) (at v 0)) (entry (at u 1) (at v 1)) (entry (at u 2) (at v 2)) (entry (at u 3) (at v 3))
  where
    entry : (x y : ℤ) → k *ℤ (at q 0 *ℤ x +ℤ at q 1 *ℤ y) +ℤ l *ℤ (at q 2 *ℤ x +ℤ at q 3 *ℤ y) ≡ (k *ℤ at q 0 +ℤ l *ℤ at q 2) *ℤ x +ℤ (k *ℤ at q 1 +ℤ l *ℤ at q 3) *ℤ y
    entry = law 8 (λ k l a b c d x y. k ⊗ (a ⊗ x ⊕ b ⊗ y) ⊕ l ⊗ (c ⊗ x ⊕ d ⊗ y) ≗ (k ⊗ a ⊕ l ⊗ c) ⊗ x ⊕ (k ⊗ b ⊕ l ⊗ d) ⊗ y) tt k l (at q 0) (at q 1) (at q 2) (at q 3)

pub times_twice : (p q : List ℤ) (m : Form) → times_form p (times_form q m) ≡ times_form (multiply_of p q) m
unfolding times_form multiply_of
times_twice p q m = form_equal (mixed_twice (at p 0) (at p 1) q m.numerator m.denominator) (mixed_twice (at p 2) (at p 3) q m.numerator m.denominator)

-- a mixture of products is a product of a mixture, on either side
mixed_left : (k l : ℤ) (a u v : List ℤ) → mixed_rows k l (multiply_of a u) (multiply_of a v) ≡ multiply_of a (mixed_rows k l u v)
unfolding multiply_of
mixed_left k l a u v = four_equal (entry (at a 0) (at a 1) 0 2) (entry (at a 0) (at a 1) 1 3) (entry (at a 2) (at a 3) 0 2) (entry (at a 2) (at a 3) 1 3)
  where
    entry : (b c : ℤ) (i j : ℕ) → k *ℤ (b *ℤ at u i +ℤ c *ℤ at u j) +ℤ l *ℤ (b *ℤ at v i +ℤ c *ℤ at v j) ≡ b *ℤ (k *ℤ at u i +ℤ l *ℤ at v i) +ℤ c *ℤ (k *ℤ at u j +ℤ l *ℤ at v j)
    entry b c i j = law 8 (λ k l b c x y z w. k ⊗ (b ⊗ x ⊕ c ⊗ y) ⊕ l ⊗ (b ⊗ z ⊕ c ⊗ w) ≗ b ⊗ (k ⊗ x ⊕ l ⊗ z) ⊕ c ⊗ (k ⊗ y ⊕ l ⊗ w)) tt k l b c (at u i) (at u j) (at v i) (at v j)

mixed_right : (k l : ℤ) (a u v : List ℤ) → mixed_rows k l (multiply_of u a) (multiply_of v a) ≡ multiply_of (mixed_rows k l u v) a
unfolding multiply_of
mixed_right k l a u v = four_equal (entry (at a 0) (at a 2) 0 1) (entry (at a 1) (at a 3) 0 1) (entry (at a 0) (at a 2) 2 3) (entry (at a 1) (at a 3) 2 3)
  where
    entry : (b c : ℤ) (i j : ℕ) → k *ℤ (at u i *ℤ b +ℤ at u j *ℤ c) +ℤ l *ℤ (at v i *ℤ b +ℤ at v j *ℤ c) ≡ (k *ℤ at u i +ℤ l *ℤ at v i) *ℤ b +ℤ (k *ℤ at u j +ℤ l *ℤ at v j) *ℤ c
    entry b c i j = law 8 (λ k l b c x y z w. k ⊗ (x ⊗ b ⊕ y ⊗ c) ⊕ l ⊗ (z ⊗ b ⊕ w ⊗ c) ≗ (k ⊗ x ⊕ l ⊗ z) ⊗ b ⊕ (k ⊗ y ⊕ l ⊗ w) ⊗ c) tt k l b c (at u i) (at u j) (at v i) (at v j)

pub times_into_x : (p : List ℤ) (m : Form) (f : List ℤ) → times_form p (into_x m f) ≡ into_x (times_form p m) f
unfolding times_form into_x
times_into_x p m f = form_equal (mixed_left (at p 0) (at p 1) (turned_over f) m.numerator m.denominator) (mixed_left (at p 2) (at p 3) (turned_over f) m.numerator m.denominator)

pub times_into_y : (p : List ℤ) (m : Form) (f : List ℤ) → times_form p (into_y m f) ≡ into_y (times_form p m) f
unfolding times_form into_y
times_into_y p m f = form_equal (mixed_right (at p 0) (at p 1) f m.numerator m.denominator) (mixed_right (at p 2) (at p 3) f m.numerator m.denominator)

-- ---- factors come out

pub scale_scale_form : (k l : ℤ) (m : Form) → scale_form k (scale_form l m) ≡ scale_form (k *ℤ l) m
scale_scale_form k l m = form_equal (scale_scale k l m.numerator) (scale_scale k l m.denominator)

pub scale_one_form : (m : Form) → scale_form (pos 1) m ≡ entries_form m
scale_one_form m = form_equal (scale_one m.numerator) (scale_one m.denominator)

pub into_x_scale : (k : ℤ) (m : Form) (f : List ℤ) → into_x (scale_form k m) f ≡ scale_form k (into_x m f)
unfolding into_x
into_x_scale k m f = form_equal (multiply_scale_right k (turned_over f) m.numerator) (multiply_scale_right k (turned_over f) m.denominator)

pub into_y_scale : (k : ℤ) (m : Form) (f : List ℤ) → into_y (scale_form k m) f ≡ scale_form k (into_y m f)
unfolding into_y
into_y_scale k m f = form_equal (multiply_scale_left k m.numerator f) (multiply_scale_left k m.denominator f)

mixed_scale : (j k l : ℤ) (u v : List ℤ) → mixed_rows k l (scale_of j u) (scale_of j v) ≡ scale_of j (mixed_rows k l u v)
unfolding scale_of
mixed_scale j k l u v = four_equal (entry (at u 0) (at v 0)) (entry (at u 1) (at v 1)) (entry (at u 2) (at v 2)) (entry (at u 3) (at v 3))
  where
    entry : (x y : ℤ) → k *ℤ (j *ℤ x) +ℤ l *ℤ (j *ℤ y) ≡ j *ℤ (k *ℤ x +ℤ l *ℤ y)
    entry = law 5 (λ j k l x y. k ⊗ (j ⊗ x) ⊕ l ⊗ (j ⊗ y) ≗ j ⊗ (k ⊗ x ⊕ l ⊗ y)) tt j k l

pub times_scale : (p : List ℤ) (k : ℤ) (m : Form) → times_form p (scale_form k m) ≡ scale_form k (times_form p m)
unfolding times_form
times_scale p k m = form_equal (mixed_scale k (at p 0) (at p 1) m.numerator m.denominator) (mixed_scale k (at p 2) (at p 3) m.numerator m.denominator)

-- ---- with the identity nothing changes, and the numbers behind the fourth are not read

pub into_x_identity : (m : Form) → into_x m identity_of ≡ entries_form m
unfolding into_x
into_x_identity m = form_equal (multiply_identity_left m.numerator) (multiply_identity_left m.denominator)

pub into_y_identity : (m : Form) → into_y m identity_of ≡ entries_form m
unfolding into_y
into_y_identity m = form_equal (multiply_identity_right m.numerator) (multiply_identity_right m.denominator)

-- the pseudoinverse and the identity: the number k in the diagonal, 0 beside it
mixed_diagonal : (k : ℤ) (u v : List ℤ) → (mixed_rows (k *ℤ pos 1) (k *ℤ pos 0) u v ≡ scale_of k u) × (mixed_rows (k *ℤ pos 0) (k *ℤ pos 1) u v ≡ scale_of k v)
unfolding scale_of
mixed_diagonal k u v = (
  four_equal (upper (at u 0) (at v 0)) (upper (at u 1) (at v 1)) (upper (at u 2) (at v 2)) (upper (at u 3) (at v 3)),
  four_equal (lower (at u 0) (at v 0)) (lower (at u 1) (at v 1)) (lower (at u 2) (at v 2)) (lower (at u 3) (at v 3)),
)
  where
    upper : (x y : ℤ) → k *ℤ pos 1 *ℤ x +ℤ k *ℤ pos 0 *ℤ y ≡ k *ℤ x
    upper = law 3 (λ k x y. k ⊗ # 1 ⊗ x ⊕ k ⊗ # 0 ⊗ y ≗ k ⊗ x) tt k

    lower : (x y : ℤ) → k *ℤ pos 0 *ℤ x +ℤ k *ℤ pos 1 *ℤ y ≡ k *ℤ y
    lower = law 3 (λ k x y. k ⊗ # 0 ⊗ x ⊕ k ⊗ # 1 ⊗ y ≗ k ⊗ y) tt k

times_diagonal : (k : ℤ) (m : Form) → times_form (scale_of k identity_of) m ≡ scale_form k m
unfolding times_form scale_of
times_diagonal k m = let d = mixed_diagonal k m.numerator m.denominator in form_equal d.0 d.1

pub times_identity : (m : Form) → times_form identity_of m ≡ entries_form m
unfolding scale_of
times_identity m = times_diagonal (pos 1) m ∙ scale_one_form m

pub scale_entries_form : (k : ℤ) (m : Form) → scale_form k (entries_form m) ≡ scale_form k m
unfolding scale_of
scale_entries_form k m = refl

pub apply_entries : (m : Form) (x y : Pair) → apply_two (entries_form m) x y ≡ apply_two m x y
unfolding apply_two on_two
apply_entries m x y = refl

pub times_entries_form : (p : List ℤ) (m : Form) → times_form p (entries_form m) ≡ times_form p m
unfolding times_form
times_entries_form p m = refl

-- ---- giving is undone up to the determinant; cancelling, up to the divisor

pub times_given : (g : List ℤ) (m : Form) → times_form g (given_form g m) ≡ scale_form (determinant_of g) m
times_given g m = times_twice g (pseudoinverse_of g) m ∙ ap (λ (p : List ℤ). times_form p m) (pseudoinverse_right g) ∙ times_diagonal (determinant_of g) m

pub cancel_scale : (m : Form) → scale_form (pos (gcd8 m)) (cancel_form m) ≡ entries_form m
cancel_scale m = let t = cancel_form_times m in form_equal (times_entries t.over) (times_entries t.under)

-- "A state of eight numbers" (document 02, T-14): the coefficients of xy, x, y and 1 in the numerator, and then in the denominator. For two numbers
-- x = x0/x1 and y = y0/y1 the quotient of the two is (a·x0·y0 + b·x0·y1 + c·x1·y0 + d·x1·y1) over the same of the other four: two pairs are sent to a
-- pair, and nothing is divided.
use Rattle.std.specs.Prelude.{List, [], ◌∷◌, ℕ, ◌+◌, ℤ, pos, neg_ℤ, ◌+ℤ◌, ◌*ℤ◌}
use Rattle.whole.specs.Range.{at}
use Rattle.plane.specs.Plane.{Pair, multiply_of, pseudoinverse_of}
use Rattle.bilinear.specs.Types.{Form}

abbrev pub form : List ℤ → List ℤ → Form
form over under = record { numerator = over; denominator = under }

-- four coefficients on two pairs
unfoldable pub on_two : List ℤ → Pair → Pair → ℤ
on_two r x y = at r 0 *ℤ (x.z0 *ℤ y.z0) +ℤ at r 1 *ℤ (x.z0 *ℤ y.z1) +ℤ at r 2 *ℤ (x.z1 *ℤ y.z0) +ℤ at r 3 *ℤ (x.z1 *ℤ y.z1)

-- X(x, y)
unfoldable pub apply_two : Form → Pair → Pair → Pair
apply_two m x y = record { z0 = on_two m.numerator x y; z1 = on_two m.denominator x y }

-- ---- the three operations: "runs with two inputs for x+y, x−y and xy"

abbrev four : ℤ → ℤ → ℤ → ℤ → List ℤ
four a b c d = a ∷ b ∷ c ∷ d ∷ []

-- a numerator over 1
abbrev pub over_one : List ℤ → Form
over_one over = form over (four (pos 0) (pos 0) (pos 0) (pos 1))

abbrev pub sum_form : Form
sum_form = over_one (four (pos 0) (pos 1) (pos 1) (pos 0))

abbrev pub difference_form : Form
difference_form = over_one (four (pos 0) (pos 1) (neg_ℤ (pos 1)) (pos 0))

abbrev pub product_form : Form
product_form = over_one (four (pos 1) (pos 0) (pos 0) (pos 0))

-- ---- absorbing and giving. Four coefficients are a matrix of two rows, the first those of x0 and the second those of x1: absorbing in y multiplies it
-- from the right, and absorbing in x from the left, with rows and columns exchanged.

-- [a, b, c, d] with rows and columns exchanged
abbrev pub turned_over : List ℤ → List ℤ
turned_over f = at f 0 ∷ at f 2 ∷ at f 1 ∷ at f 3 ∷ []

-- X(F x, y)
unfoldable pub into_x : Form → List ℤ → Form
into_x m f = form (multiply_of (turned_over f) m.numerator) (multiply_of (turned_over f) m.denominator)

-- X(x, F y)
unfoldable pub into_y : Form → List ℤ → Form
into_y m f = form (multiply_of m.numerator f) (multiply_of m.denominator f)

-- P·X: the matrix [k, l, ..] makes k times the numerator and l times the denominator the new numerator, and so on
abbrev pub mixed_rows : ℤ → ℤ → List ℤ → List ℤ → List ℤ
mixed_rows k l u v =
    (k *ℤ at u 0 +ℤ l *ℤ at v 0) ∷ (k *ℤ at u 1 +ℤ l *ℤ at v 1) ∷ (k *ℤ at u 2 +ℤ l *ℤ at v 2) ∷ (k *ℤ at u 3 +ℤ l *ℤ at v 3) ∷ []

unfoldable pub times_form : List ℤ → Form → Form
times_form p m = form (mixed_rows (at p 0) (at p 1) m.numerator m.denominator) (mixed_rows (at p 2) (at p 3) m.numerator m.denominator)

-- "X becomes pseudoinverse(G_c)·X"
abbrev pub given_form : List ℤ → Form → Form
given_form g m = times_form (pseudoinverse_of g) m

-- ---- how the code multiplies: P·X is the product of P with each of two matrices

-- two coefficients, above and below, from one of them on
abbrev pub half_from : ℕ → Form → List ℤ
half_from p m = at m.numerator p ∷ at m.numerator (p + 1) ∷ at m.denominator p ∷ at m.denominator (p + 1) ∷ []

-- those of xy and x; and those of y and 1
abbrev pub front_of : Form → List ℤ
front_of m = half_from 0 m

abbrev pub back_of : Form → List ℤ
back_of m = half_from 2 m

-- and from these two back
abbrev pub of_halves : List ℤ → List ℤ → Form
of_halves a b = form (at a 0 ∷ at a 1 ∷ at b 0 ∷ at b 1 ∷ []) (at a 2 ∷ at a 3 ∷ at b 2 ∷ at b 3 ∷ [])

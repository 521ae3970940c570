-- The divisor of a step over two words divides the determinant of the step's digit, as with one word (crates/plane/proofs/Divides.antt): absorbing F multiplies the coefficients with
-- F, from the right or, turned over, from the left, and giving G multiplies with pseudoinverse(G) the two halves that `front_of` and `back_of` are; each product is undone up to
-- the determinant. So what divides the product divides the determinant times each of the eight numbers, which have no common divisor but 1.
use Rattle.whole.proofs.Laws.{◌≡◌, refl, ◌∙◌, ap, subst, List, ℕ, ◌*◌, ◌<◌, ◌∣◌, ℤ, pos, nat_abs, ◌<ℤ◌, ◌⊖◌, ◌⊗◌, ◌≗◌, law, at, Divides4}
use native.Mathlib.Nat.{mul-one, pos_of_dvd_of_pos}
use Rattle.plane.proofs.Laws.{determinant_of, pseudoinverse_of, multiply_of, scale_of, size_above, left_divides, right_divides, undone, undone_left, multiply_pseudoinverse, times_above}
use Rattle.bilinear.specs.Types.{Form}
use Rattle.bilinear.specs.Form.{turned_over, into_x, into_y, times_form, given_form, front_of, back_of}
use Rattle.bilinear.specs.Lowest.{gcd8, Divides8, scale_form}
use Rattle.bilinear.proofs.Divisor8.{gcd8_divides, gcd8_greatest, gcd8_times}

-- ---- the eight numbers times a determinant

of_lowest8 : {d : ℤ} → pos 0 <ℤ d → {k : ℕ} (m : Form) → gcd8 m ≡ 1 → Divides8 k (scale_form d m) → k ∣ nat_abs d
of_lowest8 {d} p {k} m one v =
    let e = gcd8_times (size_above p) (record { over = times_above p m.numerator; under = times_above p m.denominator }) in
    subst (λ (n : ℕ). k ∣ n) (e ∙ ap (λ (n : ℕ). nat_abs d * n) one ∙ mul-one (nat_abs d)) (gcd8_greatest v)

-- ---- absorbing

determinant_turned : (f : List ℤ) → determinant_of (turned_over f) ≡ determinant_of f
unfolding determinant_of
determinant_turned f = law 4 (λ a b c d. a ⊗ d ⊖ c ⊗ b ≗ a ⊗ d ⊖ b ⊗ c) tt (at f 0) (at f 1) (at f 2) (at f 3)

module _ (m : Form) (f : List ℤ) (one : gcd8 m ≡ 1) (p : pos 0 <ℤ determinant_of f) where
  pub into_y_divides : gcd8 (into_y m f) ∣ nat_abs (determinant_of f)
  unfolding into_y
  into_y_divides =
      let v = gcd8_divides (into_y m f) in
      let back : (n : List ℤ) → Divides4 (gcd8 (into_y m f)) (multiply_of n f) → Divides4 (gcd8 (into_y m f)) (scale_of (determinant_of f) n) = λ n w. subst (Divides4 (gcd8 (into_y m f))) (undone n f) (left_divides (pseudoinverse_of f) w) in
      of_lowest8 p m one (record { over = back m.numerator v.over; under = back m.denominator v.under })

  pub into_x_divides : gcd8 (into_x m f) ∣ nat_abs (determinant_of f)
  unfolding into_x
  into_x_divides =
      let t = turned_over f in
      let g = gcd8 (into_x m f) in
      let v = gcd8_divides (into_x m f) in
      let back : (n : List ℤ) → Divides4 g (multiply_of t n) → Divides4 g (scale_of (determinant_of f) n) =
      λ n w. subst (Divides4 g) (undone_left t n ∙ ap (λ (d : ℤ). scale_of d n) (determinant_turned f)) (right_divides (pseudoinverse_of t) w) in
      of_lowest8 p m one (record { over = back m.numerator v.over; under = back m.denominator v.under })

  pub into_x_above : 0 < gcd8 (into_x m f)
  into_x_above = pos_of_dvd_of_pos into_x_divides (size_above p)

  pub into_y_above : 0 < gcd8 (into_y m f)
  into_y_above = pos_of_dvd_of_pos into_y_divides (size_above p)

-- ---- giving

pub front_times : (p : List ℤ) (m : Form) → front_of (times_form p m) ≡ multiply_of p (front_of m)
unfolding times_form multiply_of
front_times p m = refl

pub back_times : (p : List ℤ) (m : Form) → back_of (times_form p m) ≡ multiply_of p (back_of m)
unfolding times_form multiply_of
back_times p m = refl

to_halves : {k : ℕ} {m : Form} → Divides8 k m → Divides4 k (front_of m) × Divides4 k (back_of m)
to_halves v = (
  record { d0 = v.over.d0; d1 = v.over.d1; d2 = v.under.d0; d3 = v.under.d1 },
  record { d0 = v.over.d2; d1 = v.over.d3; d2 = v.under.d2; d3 = v.under.d3 },
)

from_halves : {k : ℕ} (d : ℤ) (m : Form) → Divides4 k (scale_of d (front_of m)) → Divides4 k (scale_of d (back_of m)) → Divides8 k (scale_form d m)
unfolding scale_of
from_halves d m v w = record {
  over = record { d0 = v.d0; d1 = v.d1; d2 = w.d0; d3 = w.d1 };
  under = record { d0 = v.d2; d1 = v.d3; d2 = w.d2; d3 = w.d3 };
}

module _ (g : List ℤ) (m : Form) (one : gcd8 m ≡ 1) (p : pos 0 <ℤ determinant_of g) where
  pub given_divides : gcd8 (given_form g m) ∣ nat_abs (determinant_of g)
  given_divides =
      let k = gcd8 (given_form g m) in
      let v = to_halves (gcd8_divides (given_form g m)) in
      let back : (n : List ℤ) → Divides4 k (multiply_of (pseudoinverse_of g) n) → Divides4 k (scale_of (determinant_of g) n) = λ n w. subst (Divides4 k) (multiply_pseudoinverse g n) (right_divides g w) in
      of_lowest8 p m one (from_halves (determinant_of g) m (back (front_of m) (subst (Divides4 k) (front_times (pseudoinverse_of g) m) v.0)) (back (back_of m) (subst (Divides4 k) (back_times (pseudoinverse_of g) m) v.1)))

  pub given_above : 0 < gcd8 (given_form g m)
  given_above = pos_of_dvd_of_pos given_divides (size_above p)

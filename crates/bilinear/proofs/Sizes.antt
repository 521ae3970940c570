-- Ranges: a state's numbers lie within 1,000,000,000 and a digit's within 100, so those of a product lie within 200,000,000,000.
use Rattle.whole.proofs.Laws.{◌≡◌, refl, ◌∙◌, ap₂, inl, inr, ℕ, ◌+◌, ◌*◌, ◌≤◌, ◌<◌, arith, le_trans, List, ℤ, Within, gcd, gcd4, gcd_by, gcd_divides_left, gcd_divides_right}
use native.Mathlib.Nat.{eq-zero-or-pos, le_of_dvd}
use Rattle.plane.proofs.Laws.{multiply_of, multiply_within, gcd4_within}
use Rattle.bilinear.specs.Types.{Form}
use Rattle.bilinear.specs.Form.{turned_over, into_x, into_y, times_form, front_of, back_of}
use Rattle.bilinear.specs.Lowest.{gcd8, WithinForm}

pub turned_within : {b : ℕ} {f : List ℤ} → Within b f → Within b (turned_over f)
turned_within w = record { n0 = w.n0; n1 = w.n2; n2 = w.n1; n3 = w.n3 }

pub front_within : {b : ℕ} {m : Form} → WithinForm b m → Within b (front_of m)
front_within w = record { n0 = w.over.n0; n1 = w.over.n1; n2 = w.under.n0; n3 = w.under.n1 }

pub back_within : {b : ℕ} {m : Form} → WithinForm b m → Within b (back_of m)
back_within w = record { n0 = w.over.n2; n1 = w.over.n3; n2 = w.under.n2; n3 = w.under.n3 }

module _ {a b : ℕ} {f : List ℤ} {m : Form} (v : Within a f) (w : WithinForm b m) where
  pub into_x_within : WithinForm (a * b + a * b) (into_x m f)
  unfolding into_x
  into_x_within = record { over = multiply_within (turned_within v) w.over; under = multiply_within (turned_within v) w.under }

  pub into_y_within : WithinForm (b * a + b * a) (into_y m f)
  unfolding into_y
  into_y_within = record { over = multiply_within w.over v; under = multiply_within w.under v }

  -- P·X is the products of P with two halves
  pub times_within : WithinForm (a * b + a * b) (times_form f m)
  unfolding times_form multiply_of
  times_within =
      let front = multiply_within {n = front_of m} v (front_within w) in
      let back = multiply_within {n = back_of m} v (back_within w) in
      record {
        over = record { n0 = front.n0; n1 = front.n1; n2 = back.n0; n3 = back.n1 };
        under = record { n0 = front.n2; n1 = front.n3; n2 = back.n2; n3 = back.n3 };
      }

no_divisor : gcd 0 0 ≡ 0
unfolding gcd gcd_by
no_divisor = refl

-- the greatest common divisor of eight numbers, where they are not all 0: it divides that of one half, which is not 0
pub gcd8_within : {b : ℕ} {m : Form} → WithinForm b m → 0 < gcd8 m → gcd8 m ≤ b
unfolding gcd8
gcd8_within {b} {m} w p = elim (eq-zero-or-pos over) [
  | inl e ↦ elim (eq-zero-or-pos under) [ inl f ↦ absurd (omega (arith, p, nought e f)) | inr q ↦ le_trans (le_of_dvd q (gcd_divides_right over under)) (gcd4_within w.under) ]
  | inr q ↦ le_trans (le_of_dvd q (gcd_divides_left over under)) (gcd4_within w.over)
]
  where
    over : ℕ
    over = gcd4 m.numerator

    under : ℕ
    under = gcd4 m.denominator

    nought : over ≡ 0 → under ≡ 0 → gcd over under ≡ 0
    nought e f = ap₂ gcd e f ∙ no_divisor

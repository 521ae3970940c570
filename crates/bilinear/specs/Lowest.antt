-- "Cancelled and within the same range": the greatest common divisor of eight numbers, and dividing by it; entries within ±1,000,000,000.
use Rattle.std.specs.Prelude.{Bool, ◌&&◌, ℕ, eqb, ℤ}
use Rattle.whole.specs.Range.{Within, within?}
use Rattle.whole.specs.Divisor.{gcd, gcd4, divided, Divides4}
use Rattle.plane.specs.Scale.{scale_of}
use Rattle.bilinear.specs.Types.{Form}
use Rattle.bilinear.specs.Form.{form}

-- the greatest common divisor of the eight numbers, signs apart
unfoldable pub gcd8 : Form → ℕ
gcd8 m = gcd (gcd4 m.numerator) (gcd4 m.denominator)

-- it is 1 (of eight times 0 it is 0)
abbrev pub lowest_form? : Form → Bool
lowest_form? m = eqb (gcd8 m) 1

-- g divides each of the eight
pub record Divides8 (g : ℕ) (m : Form) : Type 0 where
  pub over : Divides4 g m.numerator
  pub under : Divides4 g m.denominator

-- the eight numbers divided by g: signs stay
abbrev pub divided_form : Form → ℕ → Form
divided_form m g = form (divided m.numerator g) (divided m.denominator g)

unfoldable pub cancel_form : Form → Form
cancel_form m = divided_form m (gcd8 m)

-- the eight numbers lie in −b..b
pub record WithinForm (b : ℕ) (m : Form) : Type 0 where
  pub over : Within b m.numerator
  pub under : Within b m.denominator

abbrev pub within_form? : ℕ → Form → Bool
within_form? b m = within? b m.numerator && within? b m.denominator

-- k times the eight numbers
abbrev pub scale_form : ℤ → Form → Form
scale_form k m = form (scale_of k m.numerator) (scale_of k m.denominator)

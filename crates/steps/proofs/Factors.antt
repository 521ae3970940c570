-- The products of a step can be formed and cancelled: a state's entries lie within 1,000,000,000 and a digit's numbers within 100, so those of the product lie within
-- 200,000,000,000; and what is cancelled divides the digit's determinant (`divisor_divides`), which is above 0 and, of numbers within 100, at most 20,000.
use Rattle.whole.proofs.Laws.{◌≡◌, List, ℕ, ◌≤◌, ℤ, pos, nat_abs, ◌<ℤ◌, gcd4, Within, within_le, near_mul, near_sub, le_trans}
use native.Mathlib.Nat.{pos_of_dvd_of_pos, le_of_dvd}
use Rattle.plane.proofs.Laws.{determinant_of, multiply_of, pseudoinverse_of, divisor_divides, divisor_divides_given, size_above, multiply_within, pseudoinverse_within}
use Rattle.digits.proofs.Laws.{System, transformation}
use Rattle.states.proofs.Laws.{State}
use Rattle.steps.specs.Step.{DivisorNumber}
use Rattle.steps.specs.Made.{Factors, WorksWith}

module _ {x f : List ℤ} (in_range : Within 1000000000 x) (cancelled : gcd4 x ≡ 1) (small : Within 100 f) (above : pos 0 <ℤ determinant_of f) where
  -- X·F
  pub right_factors : Factors x f (nat_abs (determinant_of f))
  right_factors = record {
    first = in_range;
    second = within_le small tt;
    range = within_le (multiply_within in_range small) tt;
    above = size_above above;
    divides = divisor_divides x f cancelled above;
  }

  -- pseudoinverse(G)·X
  pub left_factors : Factors (pseudoinverse_of f) x (nat_abs (determinant_of f))
  left_factors = record {
    first = within_le (pseudoinverse_within small) tt;
    second = in_range;
    range = within_le (multiply_within (pseudoinverse_within small) in_range) tt;
    above = size_above above;
    divides = divisor_divides_given f x cancelled above;
  }

-- a determinant of numbers within 100
determinant_size : {f : List ℤ} → Within 100 f → nat_abs (determinant_of f) ≤ 20000
unfolding determinant_of
determinant_size w = (near_sub (near_mul w.n0 w.n3) (near_mul w.n1 w.n2)).near

-- the divisor of such a product
pub divisor_number : {m n f : List ℤ} → Within 100 f → Factors m n (nat_abs (determinant_of f)) → DivisorNumber (gcd4 (multiply_of m n))
divisor_number small p = (pos_of_dvd_of_pos p.divides p.above, le_trans (le_of_dvd p.above p.divides) (determinant_size small))

-- of what the functions of a step rely on
pub absorb_factors : {y : System} {s : State} {a : ℕ} → WorksWith y s a →
    Factors s.matrix (transformation y a) (nat_abs (determinant_of (transformation y a)))
absorb_factors t = right_factors t.in_range t.cancelled t.digit.in_range.numbers_f t.digit.above

pub give_factors : {y : System} {s : State} {a : ℕ} → WorksWith y s a →
    Factors (pseudoinverse_of (transformation y a)) s.matrix (nat_abs (determinant_of (transformation y a)))
give_factors t = left_factors t.in_range t.cancelled t.digit.in_range.numbers_f t.digit.above

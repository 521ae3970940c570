-- Sizes, for the functions: of numbers within 100, a determinant lies within 20,000, and so do sums of two products; so the entries of the form lie within 40,000.
use Rattle.whole.proofs.Laws.{List, ℕ, ◌+◌, ◌*◌, ℤ, Near, Within, near_le, near_mul, near_add, near_sub}
use Rattle.plane.proofs.Laws.{determinant_of}
use Rattle.expanding.specs.Expanding.{form_of}

pub determinant_near : {b : ℕ} {m : List ℤ} → Within b m → Near (b * b + b * b) (determinant_of m)
unfolding determinant_of
determinant_near w = near_sub (near_mul w.n0 w.n3) (near_mul w.n1 w.n2)

pub form_within : {f : List ℤ} → Within 100 f → Within 40000 (form_of f)
unfolding form_of
form_within w = record {
  n0 = near_sub (determinant_near w) (near_add (near_mul w.n2 w.n2) (near_mul w.n3 w.n3));
  n1 = near_le (near_add (near_mul w.n0 w.n2) (near_mul w.n1 w.n3)) tt;
  n2 = near_le (near_add (near_mul w.n2 w.n0) (near_mul w.n3 w.n1)) tt;
  n3 = near_sub (determinant_near w) (near_add (near_mul w.n0 w.n0) (near_mul w.n1 w.n1));
}

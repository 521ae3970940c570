-- What the crates above may use of this one.
pub use Rattle.built_in_digits.proofs.DigitsOfR.{r_digit, r_determinant}

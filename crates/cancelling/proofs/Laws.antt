-- What the crates above may use of this one: `use Rattle.cancelling.proofs.Laws.{..}`.

-- what divides a divisor of four numbers divides the four
pub use Rattle.cancelling.proofs.FromMultiple.{dvd4_trans}

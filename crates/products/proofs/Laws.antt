-- What the crates above may use of this one.
pub use Rattle.products.proofs.Words.{dot_asks, dot_held, factors_fit}

-- What the crates above may use of this one.
pub use Rattle.built_in.proofs.Same.{same_as_table}
pub use Rattle.built_in.specs.Recognised.{Decides, IsTable}

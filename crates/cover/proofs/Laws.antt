-- What the crates above may use of this one.
pub use Rattle.cover.proofs.CoverTests.{Intervals}
pub use Rattle.cover.proofs.CoverSays.{CoverSays, cover_says, one_digit}
pub use Rattle.cover.proofs.SameCover.{same_covered}
-- the definitions
pub use Rattle.cover.specs.Cover.{Covers, covered?}

-- What the crates above may use of this one.
pub use Rattle.fitting.proofs.FirstFit.{FirstFits, fitting_exactly, same_fitting, fits_back}
-- the definitions
pub use Rattle.fitting.specs.FirstFit.{Searchable, fitting, fits, fits?}
unfoldable pub use Rattle.fitting.specs.FirstFit.{fitting_of}
pub use Rattle.fitting.specs.Types.{Fitting, Some, None}

-- What the crates above may use of this one.
-- one section behind another
pub use Rattle.written_sections.proofs.Filling.{filled_behind}
-- the definitions
pub use Rattle.written_sections.specs.Filled.{Filled}

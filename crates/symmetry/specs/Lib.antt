-- System B's two laws, as definitions.
--   Row        a digit as a row of eight numbers
--   Symmetry   what a row becomes by turning and by reflecting
--   Says       what the theorems on these say
pub mod Row
pub mod Symmetry
pub mod Says

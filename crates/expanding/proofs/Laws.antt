-- What the crates above may use of this one.
pub use Rattle.expanding.proofs.ExpandsSays.{ExpandsSays, expands_says, AllExpandSays, all_expand_says}
pub use Rattle.expanding.proofs.SameExpand.{same_expand}
-- the definitions
pub use Rattle.expanding.specs.Expanding.{squared_length, stretched, sent, Expands, FailsToExpand, AllExpand, OneFails, all_expand?, SmallRows}
unfoldable pub use Rattle.expanding.specs.Expanding.{form_of, expands?}

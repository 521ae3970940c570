-- The types of src/, for one `use` line. (A crate passes on a type of `declared` only from under another name.)
use Rattle.two_states.specs.declared.Turn as ETurn
use Rattle.two_states.specs.declared.Turn.TheVariants as VTurn
use Rattle.two_states.specs.declared.TwoState as STwoState
pub use ETurn.{Turn}
pub use VTurn.{OfX, OfY}
pub use STwoState.{TwoState}

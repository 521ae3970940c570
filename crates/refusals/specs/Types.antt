-- The type of src/ and its cases, for one `use` line. (A crate passes on a type of `declared` only from under another name.)
use Rattle.refusals.specs.declared.Refusal as R
use Rattle.std.specs.Prelude as std
pub use R.{Refusal}
pub use R.TheVariants.{CutOff, BytesFollow, WrongCount, MatrixCount, WordCount, OutOfRange, NotAbove, NotBelow}
pub use R.TheVariants.{NotLowest, Uncovered, MatrixNotAbove, State, BufferShort, NotExpanding}
pub use std.{Result, Ok, Err}

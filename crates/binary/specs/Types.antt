-- The types of src/, for one `use` line. (A crate passes on a type of `declared` only from under another name.)
use Rattle.binary.specs.declared.TwoAnswer as SAnswer
pub use SAnswer.{TwoAnswer}

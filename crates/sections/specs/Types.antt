-- The type of src/, for one `use` line. (A crate passes on a type of `declared` only from under another name.)
use Rattle.sections.specs.declared.Part as P
pub use P.{Part}

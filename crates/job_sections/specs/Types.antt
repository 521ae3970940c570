-- The type of src/, for one `use` line. (A crate passes on a type of `declared` only from under another name.)
use Rattle.job_sections.specs.declared.FileRefusal as F
pub use F.{FileRefusal}

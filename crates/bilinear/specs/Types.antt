-- The type of src/, for one `use` line. (A crate passes on a type of `declared` only from under another name.)
use Rattle.bilinear.specs.declared.Form as SForm
pub use SForm.{Form}

-- The types of src/, for one `use` line. (A crate passes on a type of `declared` only from under another name.)
use Rattle.steps.specs.declared.Kind as EKind
use Rattle.steps.specs.declared.Kind.TheVariants as VKind
use Rattle.steps.specs.declared.Move as SMove
pub use EKind.{Kind}
pub use VKind.{Load, Give, Absorb, Halt}
pub use SMove.{Move}

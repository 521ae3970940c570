-- The types of src/, for one `use` line. (A crate passes on a type of `declared` only from under another name.)
use Rattle.std.specs.Prelude as std
use Rattle.two_steps.specs.declared.Kind as EKind
use Rattle.two_steps.specs.declared.Kind.TheVariants as VKind
use Rattle.two_steps.specs.declared.Move as SMove
use Rattle.two_steps.specs.declared.Product as SProduct
pub use EKind.{Kind}
pub use VKind.{Load, Give, Absorb, Halt}
pub use SMove.{Move}
pub use SProduct.{Product}
pub use std.{Result, Ok, Err}

-- The digit that fits, if one does: an `Option` of src/. (The logic's own `Option`, with `none` and `some`, is what searches answer in the definitions.)
use Rattle.std.specs.Prelude.{Option, ℕ}
use Rattle.std.specs.Prelude as std
pub use std.{None, Some}

abbrev pub Fitting : Type 0
Fitting = Option ℕ

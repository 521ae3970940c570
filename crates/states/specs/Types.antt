-- The types of src/, for one `use` line. (A crate passes on a type of `declared` only from under another name.)
use Rattle.std.specs.Prelude.{Option, ℕ}
use Rattle.std.specs.Prelude as std
use Rattle.states.specs.declared.Stop as EStop
use Rattle.states.specs.declared.Stop.TheVariants as VStop
use Rattle.states.specs.declared.State as SState
pub use std.{None, Some}
pub use EStop.{Stop}
pub use VStop.{InputUsed, ListFull, NoRoom, NotADigit, RangeLeft, Refused}
pub use SState.{State}

-- "a held digit of the input system, or none"
abbrev pub Held : Type 0
Held = Option ℕ

-- The types of src/, a system in memory and one that is lent, for one `use` line. (A crate passes on a type of `declared` only from under another name, here
-- `S` and `V`.) In the definitions a `System` is what document 01 calls one (specs/System.antt); what stands in memory is a `StoredSystem`.
use Rattle.digits.specs.declared.System as S
pub use S.{System as StoredSystem}
use Rattle.digits.specs.declared.SystemView as V
pub use V.{SystemView}

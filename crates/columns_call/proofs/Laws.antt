-- What the crates above may use.
pub use Rattle.columns_call.proofs.Turned.{columns_turned, rows_turned}
pub use Rattle.columns_call.proofs.UndoEachOther.{columns_back}
-- the definitions
unfoldable pub use Rattle.columns_call.specs.ColumnsCall.{columns_call_of, rows_call}

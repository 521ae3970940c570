-- What the crates above may use: the definitions.
pub use Rattle.write_call.specs.WriteCall.{AfterWrite}
unfoldable pub use Rattle.write_call.specs.WriteCall.{write_call_of}

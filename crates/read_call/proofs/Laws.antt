-- What the crates above may use: the definitions.
pub use Rattle.read_call.specs.ReadCall.{AfterRead}
unfoldable pub use Rattle.read_call.specs.ReadCall.{read_call_of}

-- What the crates above may use.
unfoldable pub use Rattle.open_call.specs.OpenCall.{open_call_of}

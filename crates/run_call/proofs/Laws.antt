-- What the crates above may use.

-- the definitions
pub use Rattle.run_call.specs.RunCall.{AfterRun}
unfoldable pub use Rattle.run_call.specs.RunCall.{run_call_of}

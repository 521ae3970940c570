-- What the crates above may use.

-- what is written is read back as what it was written for; a turn that is none is refused
pub use Rattle.two_call.proofs.ReadBack.{two_back, bad_turn_refused}
-- the definitions
pub use Rattle.two_call.specs.TwoNumbers.{turn?}
unfoldable pub use Rattle.two_call.specs.TwoNumbers.{two_numbers, two_from, two_after}
pub use Rattle.two_call.specs.TwoCall.{AfterTwo, after_two}
unfoldable pub use Rattle.two_call.specs.TwoCall.{two_opened, two_call_of}

-- What the crates above may use.

-- what is judged before any step
pub use Rattle.judging.proofs.Judging.{state_says, AcceptedBy, accepted_by, accepted, usable, accepted_ready, refusal_number_by, refusal_number_lem, system_decides, state_decides}
-- the definitions
unfoldable pub use Rattle.judging.specs.Refusal.{refusal_by, refusal_of, state?}
pub use Rattle.judging.specs.Refusal.{RefusalNumber, Accepted}

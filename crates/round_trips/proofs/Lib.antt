-- Writing a job file, as theorems. Laws is the front door.
--   AsRead       the same job with unused digits as 0: the same bytes, the same judgement, the same rules
--   Outcomes     what writing leaves says, and back: written or refused exactly when
--   RoundTrips   what is written reads back; what reads is written again; what is refused is refused by the reader
--   GoesOn       what is left of a session, saved as a job, goes on as the session would
pub mod Laws
mod AsRead
mod Outcomes
mod RoundTrips
mod GoesOn

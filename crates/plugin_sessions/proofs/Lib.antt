-- Sessions of plug-ins, as theorems. Laws is the front door.
--   Shared        what an answer says that is 0, or not 40; a held digit is a byte
--   Sessions      a session by the C functions is a session, so demand 3 holds of it
--   TwoSessions   and so is one over two words
--   Jobs          a job that reads opens one
--   Saved         a job that is written is read, and one that was read is written again
mod Shared
mod Sessions
mod TwoSessions
mod Jobs
mod Saved
pub mod Laws

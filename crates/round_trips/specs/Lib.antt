-- What writing a job file means: document 02, T-01.
--   Writes   when a job is written, and when it is refused by a number in a section
--   Again    a job that was read, as it is handed in to be written again
--   GoesOn   a session that is saved as a job
pub mod Writes
pub mod Again
pub mod GoesOn

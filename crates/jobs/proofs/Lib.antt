-- The job file, as theorems: what each answer of `read` says.
--   ReadsExactly   a file reads, or is refused by a number in a section, exactly when document 01 says; the largest file; 4,625 bytes settle every file
--   NeverRefused   what reads is refused by no opening and by no run
--   OneAnswer      no file both reads and is refused, or is refused in two ways
-- They stand on the laws of sections (crates sections and job_sections).
pub mod Laws
mod ReadsExactly
mod NeverRefused
mod OneAnswer

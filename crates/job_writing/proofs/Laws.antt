-- What the crates above may use of this one.
-- what is judged, and what is so
pub use Rattle.job_writing.proofs.WrittenFile.{Says, judged_says, said_judged, passes, passed_matrix, written_not_refused, same_size}
-- what is left: one law for each way
pub use Rattle.job_writing.proofs.WrittenFile.{judged_leaves, refused_leaves, short_leaves, file_leaves}
-- the definitions
pub use Rattle.job_writing.specs.Types.{NotWritten, Writing, Written}
pub use Rattle.job_writing.specs.Writing.{Wrote, contents, wrote, writing_number, writing_section, written_as, written_by, written_bytes}
unfoldable pub use Rattle.job_writing.specs.Writing.{judged_of, write_of}

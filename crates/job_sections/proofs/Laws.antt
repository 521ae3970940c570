-- What the crates above may use of this one: `use Rattle.job_sections.proofs.Laws.{..}`.

pub use Rattle.job_sections.proofs.Numbers.{negsuc_16, numbers_16, numbers_bytes_length, numbers_read, pos_16, read_numbers}
-- the bytes of a system are those of its rows
pub use Rattle.job_sections.proofs.SameBytes.{same_bytes}
-- what admission and opening say, and so the laws of sections
pub use Rattle.job_sections.proofs.Judgements.{admitted, opened, system_16, matrix_16}
pub use Rattle.job_sections.proofs.Lawful.{system_lawful, matrix_lawful, word_lawful, job_lawful, system_judges, matrix_judges, word_judges, written_job_lawful}
-- how many bytes a job file has
pub use Rattle.job_sections.proofs.Sizes.{layout_size}
-- what was answered about a section, of what is said with the section
pub use Rattle.job_sections.proofs.InSection.{passes_section, refuses_section}
-- the definitions
pub use Rattle.job_sections.specs.Types.{FileRefusal}
pub use Rattle.job_sections.specs.InSection.{in_section}
pub use Rattle.job_sections.specs.Layout.{Bytes, Contents, MatrixRules, Rules, SystemRules, complement, layout_of, matrix_bytes, numbers_bytes, system_bytes, two_bytes, word_bytes}
pub use Rattle.job_sections.specs.Job.{Parts, bytes_of, contents_of, file_size, job, parts_of, word_start, written_job}
pub use Rattle.job_sections.specs.Sections.{Signed16, Sixteen, matrix, system, word}
unfoldable pub use Rattle.job_sections.specs.Job.{Parts, bytes_of, contents_of, file_size, job, parts_of, word_start, written_job}
unfoldable pub use Rattle.job_sections.specs.Sections.{numbers_in}

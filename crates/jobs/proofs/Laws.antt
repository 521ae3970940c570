-- What the crates above may use of this one.
pub use Rattle.jobs.proofs.ReadsExactly.{reads_exactly, refuses_exactly, number_exactly, refused_no_job, layout_reads, rules_kept, same_layout, reads_laid, layout_length, largest, settled, word_inside}
pub use Rattle.jobs.proofs.NeverRefused.{Runs, read_never_refused}
pub use Rattle.jobs.proofs.OneAnswer.{not_both, one_refusal}
-- the definitions
pub use Rattle.jobs.specs.Reading.{read_as, refused, verdict_number, verdict_section}
unfoldable pub use Rattle.jobs.specs.Reading.{read_of, reading_of}
pub use Rattle.jobs.specs.Types.{Job, Reading, Reads, Refused, Verdict}
pub use Rattle.jobs.specs.Reads.{ReadsAs}

-- What the crates above may use of this one.
-- two bytes
pub use Rattle.sections.proofs.Bytes.{two_bytes_lem}
-- a file of lawful sections is lawful
pub use Rattle.sections.proofs.Files.{nothing_lawful, then_lawful}
-- a value that is to be written
pub use Rattle.sections.proofs.WrittenFiles.{nothing_lawful_of, then_lawful_of}
pub use Rattle.sections.proofs.Judged.{counted_judged, unwritable_judged, writable_judged, judged_says}
-- code that reads section after section
pub use Rattle.sections.proofs.Answers.{CountSays, count_number, count_says, count_there, present, not_there, refused_there, answered, Reached, start, at_0, left, stops, goes, ended, followed}
-- the definitions
pub use Rattle.sections.specs.Answered.{Answered, Taken}
pub use Rattle.sections.specs.Types.{Part}
pub use Rattle.sections.specs.Bytes.{count_of}
pub use Rattle.sections.specs.File.{Exact, Lawful, ◌then◌, nothing, reads, refuses}
pub use Rattle.sections.specs.Section.{Counted, Present, Told, Unwritable, Writable, size_of, value_of}
pub use Rattle.sections.specs.Written.{ExactOf, LawfulOf, SaysOf, ◌then_written◌, nothing_written, refuses_value, writes}
unfoldable pub use Rattle.sections.specs.Section.{judged, presence}

-- The types of src/, for one `use` line, and what `read` answers. (A crate passes on a type of `declared` only from under another name.)
use Rattle.std.specs.Prelude.{ℕ}
use Rattle.jobs.specs.declared.Word as SWord
use Rattle.jobs.specs.declared.Job as SJob
pub use SWord.{Word}
pub use SJob.{Job}

-- the file reads, or it is refused by a number in a section, 0 to 3
pub data Verdict : Type 0 where
  Reads : Verdict
  Refused : ℕ → ℕ → Verdict

-- what reading answers. (In src/ a `Result`: `read_as` of Reading says what each is.) A refused file hands back no job: all of it is 0.
pub record Reading : Type 0 where
  pub verdict : Verdict
  pub job : Job

-- What writing answers: how many bytes the file has, or the number and the section of the refusal. (In src/ a `Result`: `written_as` of Writing says
-- what each is.)
use Rattle.std.specs.Prelude.{ℕ}

pub data Writing : Type 0 where
  Written : ℕ → Writing
  NotWritten : ℕ → ℕ → Writing

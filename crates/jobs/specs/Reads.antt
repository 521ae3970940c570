-- When a file reads as a job: the answer holds the job's systems and matrix, and the word's bytes stand in the file where the answer says.
use Rattle.std.specs.Prelude.{◌≡◌, List, ℕ, length, take, drop}
use Rattle.job_sections.specs.Layout.{Contents}
use Rattle.jobs.specs.Reading.{word_start, reading_of, read_of}

pub record ReadsAs (file : List ℕ) (c : Contents) : Type 0 where
  pub answer : read_of file ≡ reading_of c
  pub word : take (length c.word) (drop (word_start c) file) ≡ c.word

-- When a job is written, and when each number and section is given: document 02, T-01. "What is written reads back as the same job, unused digits as 0".
use Rattle.std.specs.Prelude.{◌≡◌, List, ℕ, ◌≤◌, ◌<◌, length}
use Rattle.digits.specs.Types.{StoredSystem}
use Rattle.digits.specs.Orders.{columns_of, rows_of}
use Rattle.sections.specs.Bytes.{Bytes}
use Rattle.job_sections.specs.Layout.{Contents, layout_of, Rules}
use Rattle.job_sections.specs.Sections.{Sixteen, MatrixSayable}
use Rattle.job_sections.specs.Job.{written_job, parts_of}
use Rattle.whole.specs.Written.{written}
use Rattle.job_writing.specs.Types.{Written, NotWritten}
use Rattle.job_writing.specs.Writing.{Wrote, wrote}

-- "unused digits as 0"
abbrev pub cleared : StoredSystem → StoredSystem
cleared s = record { count = s.count; columns = columns_of (rows_of s) }

-- the same job, as it is read
abbrev pub as_read : Contents → Contents
as_read c = record { input = cleared c.input; output = cleared c.output; matrix = c.matrix; word = c.word }

-- the contents break the rules, by a number in a section: "those of the reader for the same contents, in its order". Every section before it is one that
-- could be written, and this one is not (sections/specs/Written.antt, `RefusesValueThen`; sections/specs/Section.antt, `Unwritable`)
abbrev pub Unwritable : Contents → ℕ → ℕ → Type 0
Unwritable c number section = written_job.RefusesValue (parts_of c) 0 number section

-- "then 14, buffer too short": the job keeps the rules, and its file has more bytes than the buffer
pub data WriteRefuses (c : Contents) (buffer : List ℕ) : ℕ → ℕ → Type 0 where
  unwritable : {number section : ℕ} → Unwritable c number section → WriteRefuses c buffer number section
  too_short : Rules (as_read c) → length buffer < length (layout_of (as_read c)) → WriteRefuses c buffer 14 0

-- what writing leaves, and what that says of the contents: the file of the job as it is read, or nothing
pub data Outcome (c : Contents) (buffer : List ℕ) : Wrote → Type 0 where
  saves : Rules (as_read c) → length (layout_of (as_read c)) ≤ length buffer →
      Outcome c buffer (wrote (Written (length (layout_of (as_read c)))) (written (layout_of (as_read c)) buffer))
  refuses : {number section : ℕ} → WriteRefuses c buffer number section → Outcome c buffer (wrote (NotWritten number section) buffer)

-- ---- what can be handed in

-- a matrix of four numbers, and a word of bytes: so it is with every call
pub record Handed (c : Contents) : Type 0 where
  pub four : length c.matrix ≡ 4
  pub bytes : Bytes c.word

-- numbers that bytes can say: so it is with every system in memory. A matrix may have others, which "no 16 bits hold"
pub record InBytes (c : Contents) : Type 0 where
  pub input : Sixteen (rows_of c.input)
  pub output : Sixteen (rows_of c.output)
  pub matrix : MatrixSayable c.matrix
  pub word : Bytes c.word

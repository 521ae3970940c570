-- What `write` answers, and what it leaves: "Given two systems, a matrix and a word, fill a lent buffer with the job file". The theorems of
-- crates/round_trips say what the answers mean.
use Rattle.std.specs.Prelude.{cond, List, ℕ, ◌≤◌, ltb, length, ℤ}
use Rattle.whole.specs.Written.{written}
use Rattle.digits.specs.Types.{StoredSystem}
use Rattle.refusals.specs.Types.{Result, Ok, Err}
use Rattle.refusals.specs.Numbers.{number_of}
use Rattle.job_sections.specs.Types.{FileRefusal}
use Rattle.job_sections.specs.Layout.{Contents, layout_of}
use Rattle.job_sections.specs.Sections.{Sixteen}
use Rattle.job_sections.specs.Job.{written_job, parts_of, file_size}
use Rattle.job_writing.specs.Types.{Writing, Written, NotWritten}

-- ---- what src/ answers

abbrev pub written_as : Result ℕ FileRefusal → Writing
written_as (Ok n) = Written n
written_as (Err f) = NotWritten (number_of f.refusal) f.section

-- ---- an answer's numbers: of the refusal and its section, 0 and 0 where the file is written; and how many bytes are written

abbrev pub writing_number : Writing → ℕ
writing_number (Written n) = 0
writing_number (NotWritten number section) = number

abbrev pub writing_section : Writing → ℕ
writing_section (Written n) = 0
writing_section (NotWritten number section) = section

abbrev pub written_bytes : Writing → ℕ
written_bytes (Written n) = n
written_bytes (NotWritten number section) = 0

-- ---- what is written

-- "two systems, a matrix and a word"
abbrev pub contents : StoredSystem → StoredSystem → List ℤ → List ℕ → Contents
contents input output matrix word = record { input = input; output = output; matrix = matrix; word = word }

-- "Refusals: those of the reader for the same contents, in its order"; where nothing is refused, as many bytes as the file has may be written
unfoldable pub judged_of : Contents → Writing
judged_of c = written_job.judge NotWritten (Written (length (layout_of c))) 0 (parts_of c)

-- what writing leaves: its answer and the bytes of the buffer
pub record Wrote : Type 0 where
  pub answer : Writing
  pub buffer : List ℕ

abbrev pub wrote : Writing → List ℕ → Wrote
wrote answer buffer = record { answer = answer; buffer = buffer }

-- "then 14, buffer too short, nothing written"; else the file, and "Bytes past the file stay"
abbrev pub written_by : Writing → List ℕ → List ℕ → Wrote
written_by (NotWritten number section) file buffer = wrote (NotWritten number section) buffer
written_by (Written n) file buffer = cond (ltb (length buffer) n) (wrote (NotWritten 14 0) buffer) (wrote (Written n) (written file buffer))

unfoldable pub write_of : Contents → List ℕ → Wrote
write_of c buffer = written_by (judged_of c) (layout_of c) buffer

-- ---- what the function behind the judgement may rely on: numbers that two bytes hold, and room for the file
pub record Fits (c : Contents) (buffer : List ℕ) : Type 0 where
  pub few_in : c.input.count ≤ 16
  pub few_out : c.output.count ≤ 16
  pub entries : Sixteen c.matrix
  pub short : length c.word ≤ 4096
  pub room : file_size c ≤ length buffer

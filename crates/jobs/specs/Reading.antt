-- What `read` answers: "The answer is the number and the section, 0 to 3 (2 has section 3)", or the job. The theorems `reads_exactly` and
-- `refuses_exactly` (proofs/) say what the answers mean, by crates/job_sections/specs/Layout.antt and specs/Refuses.antt.
use Rattle.std.specs.Prelude.{List, ℕ, length, replicate, pos}
use Rattle.digits.specs.Types.{StoredSystem}
use Rattle.opening.specs.Opening.{no_matrix}
use Rattle.refusals.specs.Types.{Result, Ok, Err}
use Rattle.refusals.specs.Numbers.{number_of}
use Rattle.job_sections.specs.Types.{FileRefusal}
use Rattle.jobs.specs.Types.{Verdict, Reads, Refused, Job, Reading}
use Rattle.job_sections.specs.Layout.{Contents}
pub use Rattle.job_sections.specs.Job.{Parts, job, contents_of, parts_of, bytes_of, word_start}

-- ---- "The answer is the number and the section, 0 to 3": 0 and 0 where the file reads

abbrev pub verdict_number : Verdict → ℕ
verdict_number Reads = 0
verdict_number (Refused number section) = number

abbrev pub verdict_section : Verdict → ℕ
verdict_section Reads = 0
verdict_section (Refused number section) = section

-- ---- a file that reads

-- the word stays where it is, behind its count
unfoldable pub reading_of : Contents → Reading
reading_of c = record {
  verdict = Reads;
  job = record { input = c.input; output = c.output; matrix = c.matrix; word = record { start = word_start c; length = length c.word } };
}

-- ---- a file that is refused: "no job"; what stands in its place is all 0

abbrev pub no_system : StoredSystem
no_system = record { count = 0; columns = replicate 128 (pos 0) }

abbrev pub no_job : Job
no_job = record { input = no_system; output = no_system; matrix = no_matrix; word = record { start = 0; length = 0 } }

abbrev pub refused : ℕ → ℕ → Reading
refused number section = record { verdict = Refused number section; job = no_job }

-- ---- what src/ answers

abbrev pub read_as : Result Job FileRefusal → Reading
read_as (Ok j) = record { verdict = Reads; job = j }
read_as (Err f) = refused (number_of f.refusal) f.section

-- ---- a file is read section by section

unfoldable pub read_of : List ℕ → Reading
read_of file = job.read (λ p. reading_of (contents_of p)) refused 0 file

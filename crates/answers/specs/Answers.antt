-- What the library's functions can answer. A record for each, so that a caller has one range at a time.
use Rattle.std.specs.Prelude.{◌≡◌, List, ℕ, ◌+◌, ◌≤◌, length}
use Rattle.whole.specs.Range.{Within}
use Rattle.admission.specs.Types.{Admission}
use Rattle.admission.specs.Admission.{refusal_number, SystemNumber}
use Rattle.states.specs.Types.{None}
use Rattle.states.specs.State.{StateRules}
use Rattle.opening.specs.Types.{Start}
use Rattle.opening.specs.Opening.{opening_number, no_matrix}
use Rattle.job_sections.specs.Layout.{SystemRules, MatrixRules}
use Rattle.job_writing.specs.Types.{Writing, Written, NotWritten}
use Rattle.jobs.specs.Types.{Reads, Job, Reading}
use Rattle.jobs.specs.Reading.{verdict_number, verdict_section, no_job}
use Rattle.job_writing.specs.Writing.{writing_number, Wrote}
use Rattle.answers.specs.Numbers.{MatrixNumber, SectionNumber, UnwrittenNumber, ZeroOr}

-- admitting a system: 0, or "3, 6 to 10", or 18
abbrev pub AdmissionInRange : Admission → Type 0
AdmissionInRange v = ZeroOr SystemNumber (refusal_number v)

-- opening: 0, 6 or 11; "X is M cancelled, nothing held", so that its entries too lie in −1000..1000
pub record StartInRange (r : Start) : Type 0 where
  pub number : ZeroOr MatrixNumber (opening_number r.opening)
  pub four : length r.state.matrix ≡ 4
  pub entries : Within 1000 r.state.matrix
  pub held : r.state.held ≡ None
  -- where it opens, the rules for a state are kept, whatever the input system; where it is refused, "no state"
  pub opened : opening_number r.opening ≡ 0 → (digits : ℕ) → StateRules digits r.state
  pub refused : 1 ≤ opening_number r.opening → r.state.matrix ≡ no_matrix

-- a job: both systems are admitted ones, so that each has 1 to 16 digits and numbers in −100..100; "M with entries in −1000..1000 and determinant above 0"; a
-- word of 0..4096 bytes, which are bytes of the file
pub record JobInRange (file : List ℕ) (j : Job) : Type 0 where
  pub input : SystemRules j.input
  pub output : SystemRules j.output
  pub matrix : MatrixRules j.matrix
  pub short : j.word.length ≤ 4096
  pub inside : j.word.start + j.word.length ≤ length file

-- reading: 0 and a job, or a number that the section can give, and no job
pub record ReadingInRange (file : List ℕ) (r : Reading) : Type 0 where
  pub number : ZeroOr (SectionNumber (verdict_section r.verdict)) (verdict_number r.verdict)
  pub section : verdict_section r.verdict ≤ 3
  pub reads : verdict_number r.verdict ≡ 0 → r.verdict ≡ Reads
  pub job : verdict_number r.verdict ≡ 0 → JobInRange file r.job
  pub refused : 1 ≤ verdict_number r.verdict → r.job ≡ no_job

-- writing: how many bytes the file has, at least those of two systems of one digit, a matrix and no word; "The largest file is 4,624 bytes"; and all of them
-- lie in the buffer
pub record SizeInRange (buffer : List ℕ) (n : ℕ) : Type 0 where
  pub least : 48 ≤ n
  pub most : n ≤ 4624
  pub inside : n ≤ length buffer

-- or a number that the section can give, "nothing written"
abbrev pub WritingAnswer : List ℕ → Writing → Type 0
WritingAnswer buffer (Written n) = SizeInRange buffer n
WritingAnswer buffer (NotWritten number section) = UnwrittenNumber buffer section number

pub record WritingInRange (buffer : List ℕ) (w : Wrote) : Type 0 where
  pub answer : WritingAnswer buffer w.answer
  pub room : length w.buffer ≡ length buffer
  pub untouched : 1 ≤ writing_number w.answer → w.buffer ≡ buffer

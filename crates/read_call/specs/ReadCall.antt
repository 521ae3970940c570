-- What is read in a job file, as numbers; and what every lent number is behind a reading, for all inputs.
use Rattle.std.specs.Prelude.{Bool, cond, ◌&&◌, List, [], ◌∷◌, ℕ, ◌+◌, ◌*◌, eqb, length, ℤ}
use Rattle.plane.specs.Scale.{entries}
use Rattle.whole.specs.Refusal.{unless_refused}
use Rattle.jobs.specs.Types.{Verdict, Job, Reading}
use Rattle.jobs.specs.Reading.{verdict_number, verdict_section, read_of}
use Rattle.numbers.specs.Numbers.{wrong_length}

-- "The answer is the number and the section, 0 to 3": one number, number + 256 · section, and 0 where the file reads
abbrev pub call_number : Verdict → ℕ
call_number v = verdict_number v + 256 * verdict_section v

-- it is asked only where the lengths are right of what is written over: the columns of two systems, a matrix, and what else is found
abbrev pub read_lengths? : ℕ → ℕ → ℕ → ℕ → Bool
read_lengths? in_columns out_columns m found = eqb in_columns 128 && eqb out_columns 128 && eqb m 4 && eqb found 4

abbrev pub read_number : ℕ → ℕ → ℕ → ℕ → Verdict → ℕ
read_number in_columns out_columns m found v = cond (read_lengths? in_columns out_columns m found) (call_number v) wrong_length

-- what reading leaves: its answer, the columns of the two systems, the matrix, and what else is found
pub record AfterRead : Type 0 where
  pub number : ℕ
  pub in_columns : List ℤ
  pub out_columns : List ℤ
  pub matrix : List ℤ
  pub found : List ℕ

abbrev pub after_read : ℕ → List ℤ → List ℤ → List ℤ → List ℕ → AfterRead
after_read n input output m found = record { number = n; in_columns = input; out_columns = output; matrix = m; found = found }

-- a job: the columns of each system, 0 for the digits that it hasn't got; the four entries; then the two counts of digits, and where the word starts and
-- how long it is
abbrev pub found_numbers : Job → List ℕ
found_numbers j = j.input.count ∷ j.output.count ∷ j.word.start ∷ j.word.length ∷ []

abbrev pub job_numbers : Job → AfterRead
job_numbers j = after_read 0 j.input.columns j.output.columns (entries j.matrix) (found_numbers j)

-- ---- reading a job file: what is read is written where the file reads, and only there
abbrev pub reading_call : Reading → List ℤ → List ℤ → List ℤ → List ℕ → AfterRead
reading_call r in_columns out_columns m found =
    unless_refused (read_number (length in_columns) (length out_columns) (length m) (length found) r.verdict)
    (λ n. after_read n in_columns out_columns m found)
    (job_numbers r.job)

-- of the file, and then what is written over: the columns of the two systems, the matrix and what else is found
unfoldable pub read_call_of : List ℕ → List ℤ → List ℤ → List ℤ → List ℕ → AfterRead
read_call_of file in_columns out_columns m found = reading_call (read_of file) in_columns out_columns m found

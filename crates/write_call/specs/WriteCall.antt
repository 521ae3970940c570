-- What writing a job file from lent numbers answers, and what every lent number and byte is afterwards, for all inputs: document 02's T-01 at the C
-- boundary.
use Rattle.std.specs.Prelude.{Bool, cond, ◌&&◌, List, [], ◌∷◌, ℕ, ◌+◌, ◌*◌, eqb, length, ℤ}
use Rattle.plane.specs.Scale.{entries}
use Rattle.digits.specs.Types.{StoredSystem}
use Rattle.job_writing.specs.Types.{Writing, Written, NotWritten}
use Rattle.job_writing.specs.Writing.{writing_number, writing_section, contents, Wrote, write_of}
use Rattle.numbers.specs.Numbers.{wrong_length, columns?}

-- what writing leaves: its answer, the bytes of the buffer, and how many of them are the file's
pub record AfterWrite : Type 0 where
  pub number : ℕ
  pub file : List ℕ
  pub written : List ℕ

abbrev pub after_write : ℕ → List ℕ → List ℕ → AfterWrite
after_write n file written = record { number = n; file = file; written = written }

-- "Refusals: those of the reader for the same contents, in its order": as of reading one number, number + 256 · section, and 0 where the file is written
abbrev pub answer_number : Writing → ℕ
answer_number a = writing_number a + 256 * writing_section a

-- the one number that is lent for it is how many bytes were written; of a refusal, "nothing written", it stays
abbrev pub written_after : Writing → List ℕ → List ℕ
written_after (Written n) old = n ∷ []
written_after (NotWritten number section) old = old

-- the buffer is as writing leaves it (job_writing/specs/Writing.antt): a refusal leaves it as it was, and "Bytes past the file stay"
abbrev pub wrote_call : Wrote → List ℕ → AfterWrite
wrote_call w old = after_write (answer_number w.answer) w.buffer (written_after w.answer old)

-- the columns of two systems, a matrix, and one number to be written; the word and the buffer may have any length
abbrev pub write_lengths? : StoredSystem → StoredSystem → List ℤ → List ℕ → Bool
write_lengths? input output m old = columns? input.columns && columns? output.columns && eqb (length m) 4 && eqb (length old) 1

-- "Given two systems, a matrix and a word, fill a lent buffer with the job file": of these, and then what is written over, the buffer and the one number
unfoldable pub write_call_of : StoredSystem → StoredSystem → List ℤ → List ℕ → List ℕ → List ℕ → AfterWrite
write_call_of input output m word file old =
    cond (write_lengths? input output m old)
    (wrote_call (write_of (contents input output (entries m) word) file) old)
    (after_write wrong_length file old)

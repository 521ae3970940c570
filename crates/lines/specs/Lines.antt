-- Document 01, "The program": what is printed. "It reads a job on standard input, gives room for 8,192 digits and prints three lines: end number, digits
-- taken, digits written; the four entries and the held digit or `-`; the output digits. Fields are parted by one blank; with no digits the third line is
-- empty. A refused file prints one line: `refused`, number, section."
use Rattle.std.specs.Prelude.{List, [], ◌∷◌, ◌++◌, map, ℕ, take}
use Rattle.text.specs.Text.{bytes_of}
use Rattle.text.specs.Number.{decimal}
use Rattle.text.specs.Line.{line_of}
use Rattle.states.specs.State.{end_number}
use Rattle.state_line.specs.StateLine.{state_line_of}
use Rattle.unary.specs.Types.{Answer}

-- "end number, digits taken, digits written"
unfoldable pub counts_line : ℕ → ℕ → ℕ → List ℕ
counts_line end taken written = line_of (decimal end ∷ decimal taken ∷ decimal written ∷ [])

-- "the output digits .. with no digits the third line is empty"
unfoldable pub digits_line : List ℕ → List ℕ
digits_line ds = line_of (map decimal ds)

-- "three lines"
unfoldable pub answer_text : Answer → List ℕ → List ℕ
answer_text a output =
    counts_line (end_number a.stop) a.taken.0 a.written.0 ++ (state_line_of a.state ++ digits_line (take a.written.0 output))

-- "A refused file prints one line: `refused`, number, section."
unfoldable pub refused_text : ℕ → ℕ → List ℕ
refused_text number section = line_of (bytes_of "refused" ∷ decimal number ∷ decimal section ∷ [])

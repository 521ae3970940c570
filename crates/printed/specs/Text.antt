-- Document 01, "The program": what it prints of a file, where `room` are the bytes that it has for the output digits. The lines are those of crates/lines.
use Rattle.std.specs.Prelude.{List, ℕ, take, drop, replicate}
use Rattle.lines.specs.Lines.{answer_text, refused_text}
use Rattle.opening.specs.Opening.{open_of}
use Rattle.digits.specs.Orders.{system_of}
use Rattle.unary.specs.Run.{Ran, run_of}
use Rattle.jobs.specs.Reading.{read_of}
use Rattle.jobs.specs.Types.{Verdict, Reads, Refused, Job}

-- The program lends a list that can't fill: it lists a number for each digit taken in and each written, 4096 + 8192 at most.
abbrev pub program_list : List ℕ
program_list = replicate 12288 0

-- the word's bytes in the file, and its run from the opened state
abbrev pub run_in : List ℕ → Job → List ℕ → Ran
run_in file j room =
    run_of (system_of j.input) (system_of j.output) (open_of j.matrix).state (take j.word.length (drop j.word.start file)) room program_list

abbrev pub ran_text : Ran → List ℕ
ran_text r = answer_text r.answer r.output

abbrev pub printed_by : List ℕ → Job → List ℕ → Verdict → List ℕ
printed_by file j room Reads = ran_text (run_in file j room)
printed_by file j room (Refused number section) = refused_text number section

unfoldable pub printed : List ℕ → List ℕ → List ℕ
printed file room = printed_by file (read_of file).job room (read_of file).verdict

-- what the bytes for the output digits hold afterwards: what the run left there, or what they held
abbrev pub filled_on : List ℕ → Job → List ℕ → Verdict → List ℕ
filled_on file j room Reads = (run_in file j room).output
filled_on file j room (Refused number section) = room

unfoldable pub filled_by : List ℕ → List ℕ → List ℕ
filled_by file room = filled_on file (read_of file).job room (read_of file).verdict

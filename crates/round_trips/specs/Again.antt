-- "a file that reads is written again byte for byte": what was read of a file, as it is handed in; and what reading would say of contents that are judged.
use Rattle.std.specs.Prelude.{List, ℕ, take, drop}
use Rattle.job_sections.specs.Layout.{Contents}
use Rattle.job_writing.specs.Types.{Writing, Written, NotWritten}
use Rattle.job_writing.specs.Writing.{contents}
use Rattle.jobs.specs.Types.{Job, Reading}
use Rattle.jobs.specs.Reading.{reading_of, refused}
use Rattle.round_trips.specs.Writes.{as_read}

-- the two systems and the matrix that reading answers, and the word where it stands in the file
abbrev pub read_contents : List ℕ → Job → Contents
read_contents file j = contents j.input j.output j.matrix (take j.word.length (drop j.word.start file))

-- "those of the reader for the same contents": what reading answers of the file that would be written
abbrev pub read_by : Contents → Writing → Reading
read_by c (Written n) = reading_of (as_read c)
read_by c (NotWritten number section) = refused number section

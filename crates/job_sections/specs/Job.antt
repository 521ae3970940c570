-- The job file as sections: "Four sections in fixed order .. Nothing follows."
use Rattle.std.specs.Prelude.{List, ℕ, ◌+◌, ◌*◌, length, ℤ}
use Rattle.sections.specs.File.{File, nothing, ◌then◌}
use Rattle.sections.specs.Written.{Writing, nothing_written, ◌then_written◌}
use Rattle.digits.specs.Types.{StoredSystem}
use Rattle.job_sections.specs.Layout.{Contents}
use Rattle.job_sections.specs.Sections.{system, matrix, word}

abbrev pub Parts : Type 0
Parts = StoredSystem × (StoredSystem × (List ℤ × (List ℕ × Unit {0})))

abbrev pub job : File Parts
job = system then (system then (matrix then (word then nothing)))

-- the same file, as it is written
abbrev pub written_job : Writing Parts
written_job = system then_written (system then_written (matrix then_written (word then_written nothing_written)))

abbrev pub contents_of : Parts → Contents
contents_of p = record { input = p.0; output = p.1.0; matrix = p.1.1.0; word = p.1.1.1.0 }

abbrev pub parts_of : Contents → Parts
parts_of c = (c.input, (c.output, (c.matrix, (c.word, tt))))

-- ---- how long it is

-- a system's bytes: its count, and eight numbers of two bytes for each digit
abbrev pub bytes_of : StoredSystem → ℕ
bytes_of s = 2 + 16 * s.count

-- behind two systems, ten bytes of a matrix and the word's count
abbrev pub word_start : Contents → ℕ
word_start c = bytes_of c.input + bytes_of c.output + 10 + 2

abbrev pub file_size : Contents → ℕ
file_size c = word_start c + length c.word

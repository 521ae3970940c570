-- When each number and section is given, by the layout alone: "1: the file ends before a count or a section is whole. 2: bytes follow the word. 3: a
-- system has 0 or more than 16 digits. 4: the matrix count is not 4. 5: the word count is above 4096. 6: a number is out of its range. 7: det F ≤ 0. 8:
-- det W ≥ 0. 9: F or an end not in lowest terms. 10: some point is in no closed interval. 11: det M ≤ 0." A file is refused in a section where the
-- sections before it are whole and keep the rules, and the bytes from its count on break this one (sections/specs/File.antt, `RefusesThen` and
-- `Follows`; sections/specs/Section.antt, `Breaks`), for the sections of crates/job_sections/specs/Sections.antt.
use Rattle.std.specs.Prelude.{List, ℕ}
use Rattle.jobs.specs.Reading.{job}

-- "The answer is the number and the section, 0 to 3 (2 has section 3)."
abbrev pub Refuses : List ℕ → ℕ → ℕ → Type 0
Refuses file number section = job.Refuses file 0 number section

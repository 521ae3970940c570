-- Which numbers are given for what, in document 01's words. (Of a system, "3, 6 to 10", and 18: `SystemNumber`, crates/admission/specs. Of a run's
-- systems and state, these and 12: `RefusalNumber`, crates/judging/specs. The ends: `EndNumber`, crates/states/specs.)
use Rattle.std.specs.Prelude.{◌≡◌, List, ◌⊎◌, ℕ, zero, suc, ◌<◌, length}
use Rattle.admission.specs.Admission.{SystemNumber}
use Rattle.numbers.specs.Numbers.{wrong_length}

-- "Opening: 6, then 11."
abbrev pub MatrixNumber : ℕ → Type 0
MatrixNumber n = (n ≡ 6) ⊎ (n ≡ 11)

-- "a section's count present (1), count right (3, 4, 5), section present (1), then contents. System: row by row 6, 7, 8, 9; then 10. Matrix: 6, then 11. Last,
-- 2. The answer is the number and the section, 0 to 3 (2 has section 3)": the numbers that each section can be refused by, and no other section is
abbrev pub SectionNumber : ℕ → ℕ → Type 0
SectionNumber zero n = (n ≡ 1) ⊎ SystemNumber n
SectionNumber (suc zero) n = (n ≡ 1) ⊎ SystemNumber n
SectionNumber (suc (suc zero)) n = (n ≡ 1) ⊎ ((n ≡ 4) ⊎ MatrixNumber n)
SectionNumber (suc (suc (suc zero))) n = (n ≡ 1) ⊎ ((n ≡ 2) ⊎ (n ≡ 5))
SectionNumber (suc (suc (suc (suc section)))) n = ⊥

-- ---- a job that is to be written (document 02, T-01)

-- "Refusals: those of the reader for the same contents, in its order". No bytes can be missing or follow, and a matrix has four entries: no 1, no 2 and no 4
abbrev pub ContentsNumber : ℕ → ℕ → Type 0
ContentsNumber zero n = SystemNumber n
ContentsNumber (suc zero) n = SystemNumber n
ContentsNumber (suc (suc zero)) n = MatrixNumber n
ContentsNumber (suc (suc (suc zero))) n = n ≡ 5
ContentsNumber (suc (suc (suc (suc section)))) n = ⊥

-- "then 14, buffer too short", in section 0; and never where the largest file, of 4,624 bytes, has room
pub record TooShort (buffer : List ℕ) (section n : ℕ) : Type 0 where
  pub fourteen : n ≡ 14
  pub first : section ≡ 0
  pub short : length buffer < 4624

abbrev pub UnwrittenNumber : List ℕ → ℕ → ℕ → Type 0
UnwrittenNumber buffer section n = ContentsNumber section n ⊎ TooShort buffer section n

-- ---- 0 where nothing is refused
abbrev pub ZeroOr : (ℕ → Type 0) → ℕ → Type 0
ZeroOr Refusal n = (n ≡ 0) ⊎ Refusal n

-- of a C function, besides: the number of a wrong length
abbrev pub OrLength : (ℕ → Type 0) → ℕ → Type 0
OrLength Answers n = Answers n ⊎ (n ≡ wrong_length)

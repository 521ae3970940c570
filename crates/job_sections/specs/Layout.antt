-- Document 01, "Job file", in its own words and order: the bytes of a job. "Four sections in fixed order, each after its count (2 bytes, low byte
-- first): input system (count of digits, rows of eight signed 16-bit numbers, low byte first, two's complement); output system, the same; matrix (count
-- 4, then a b c d as such numbers); word (count 0..4096, one byte a digit). Nothing follows."
use Rattle.std.specs.Prelude.{◌≡◌, List, [], ◌∷◌, ◌++◌, ℕ, ◌-◌, ◌≤◌, length, ℤ, pos, negsuc, ◌<ℤ◌}
use Rattle.whole.specs.Range.{Within}
use Rattle.plane.specs.Plane.{determinant_of}
use Rattle.admission.specs.Admitted.{Admissible}
use Rattle.digits.specs.Types.{StoredSystem}
use Rattle.digits.specs.Orders.{system_of, columns_of, rows_of}
pub use Rattle.sections.specs.Bytes.{Bytes, two_bytes}

-- what a job is: two systems, a matrix and a word
pub record Contents : Type 0 where
  pub input : StoredSystem
  pub output : StoredSystem
  pub matrix : List ℤ
  pub word : List ℕ

-- "two's complement": −1 is 65535, and −32768 is 32768
abbrev pub complement : ℤ → ℕ
complement (pos n) = n
complement (negsuc n) = 65535 - n

-- "signed 16-bit numbers, low byte first, two's complement"
abbrev pub numbers_bytes : List ℤ → List ℕ
numbers_bytes [] = []
numbers_bytes (z ∷ zs) = two_bytes (complement z) ++ numbers_bytes zs

-- "input system (count of digits, rows of eight signed 16-bit numbers ..)", with `two_bytes` for "2 bytes, low byte first". `rows_of`: the numbers of the
-- digits that a system has, row by row, whatever their order in memory.
abbrev pub system_bytes : StoredSystem → List ℕ
system_bytes s = two_bytes s.count ++ numbers_bytes (rows_of s)

-- "matrix (count 4, then a b c d as such numbers)"
abbrev pub matrix_bytes : List ℤ → List ℕ
matrix_bytes m = two_bytes 4 ++ numbers_bytes m

-- "word (count 0..4096, one byte a digit)"
abbrev pub word_bytes : List ℕ → List ℕ
word_bytes w = two_bytes (length w) ++ w

-- "Four sections in fixed order .. Nothing follows."
abbrev pub layout_of : Contents → List ℕ
layout_of c = system_bytes c.input ++ (system_bytes c.output ++ (matrix_bytes c.matrix ++ word_bytes c.word))

-- ---- the rules for the contents

-- a system is admitted, and "what is kept for the digits a system hasn't got is 0 when it is read"
pub record SystemRules (s : StoredSystem) : Type 0 where
  pub admissible : Admissible (system_of s)
  pub unused : s.columns ≡ columns_of (rows_of s)

-- "Opening takes M with entries in −1000..1000 and determinant above 0"
pub record MatrixRules (m : List ℤ) : Type 0 where
  pub four : length m ≡ 4
  pub in_range : Within 1000 m
  pub above : pos 0 <ℤ determinant_of m

-- "count 0..4096, one byte a digit". "The word's bytes are not tested here; a run does that."
pub record WordRules (w : List ℕ) : Type 0 where
  pub short : length w ≤ 4096
  pub bytes : Bytes w

pub record Rules (c : Contents) : Type 0 where
  pub input : SystemRules c.input
  pub output : SystemRules c.output
  pub matrix : MatrixRules c.matrix
  pub word : WordRules c.word

-- The three kinds of section. "Files are judged in file order: a section's count present (1), count right (3, 4, 5), section present (1), then contents.
-- System: row by row 6, 7, 8, 9; then 10. Matrix: 6, then 11." Each kind says which bytes a value has, when a number is given of a value, in document
-- 01's words, and how both are computed.
use Rattle.std.specs.Prelude.{◌≡◌, cond, List, [], ◌∷◌, ℕ, ◌+◌, ◌*◌, ◌≤◌, ltb, length, ℤ, pos, negsuc, ◌-ℤ◌, ◌≤ℤ◌}
use Rattle.sections.specs.Bytes.{pair_at}
use Rattle.sections.specs.Section.{Section}
use Rattle.whole.specs.Range.{at}
use Rattle.admission.specs.Admission.{refusal_number, admission_of}
use Rattle.admission.specs.Admitted.{SystemCase}
use Rattle.digits.specs.Types.{StoredSystem}
use Rattle.digits.specs.Orders.{system_of, columns_of, rows_of}
use Rattle.opening.specs.Opening.{opening_number, opening_of, OpeningCase}
use Rattle.job_sections.specs.Layout.{numbers_bytes, WordRules}

-- ---- "signed 16-bit numbers, low byte first, two's complement"

pub record Signed16 (z : ℤ) : Type 0 where
  pub from : negsuc 32767 ≤ℤ z
  pub to : z ≤ℤ pos 32767

abbrev pub Sixteen : List ℤ → Type 0
Sixteen zs = (i : ℕ) → Signed16 (at zs i)

-- from 32768 on, 65536 less
unfoldable pub signed : ℕ → ℤ
signed u = cond (ltb u 32768) (pos u) (pos u -ℤ pos 65536)

-- the number at a place of the bytes, and all of them
abbrev pub number_at : List ℕ → ℕ → ℤ
number_at bytes p = signed (pair_at bytes p)

unfoldable pub numbers_in : List ℕ → List ℤ
numbers_in [] = []
numbers_in (a ∷ []) = []
numbers_in (a ∷ b ∷ bytes) = signed (a + 256 * b) ∷ numbers_in bytes

-- ---- a number is given where the sentence holds that has this number: 0 has the sentence that nothing is refused

pub record ByNumber {E : Type 0} (number_of : E → ℕ) (Case : E → Type 0) (number : ℕ) : Type 0 where
  pub answer : E
  pub numbered : number_of answer ≡ number
  pub holds : Case answer

-- ---- a system: "3: a system has 0 or more than 16 digits"; then 6 to 10, and 18

-- rows of signed 16-bit numbers, and 0 for the digits that the system hasn't got
pub record SystemSayable (s : StoredSystem) : Type 0 where
  pub some_digits : 1 ≤ s.count
  pub few_digits : s.count ≤ 16
  pub numbers : Sixteen (rows_of s)
  pub unused : s.columns ≡ columns_of (rows_of s)

abbrev pub system : Section StoredSystem
system = record {
  limits = record { least = 1; most = 16; wrong = 3; unit = 16 };
  count = λ s. s.count;
  body = λ s. numbers_bytes (rows_of s);
  Sayable = SystemSayable;
  Gives = λ s. ByNumber refusal_number (SystemCase (system_of s));
  value = λ n body. record { count = n; columns = columns_of (numbers_in body) };
  number = λ s. refusal_number (admission_of (system_of s));
}

-- ---- a matrix: "4: the matrix count is not 4"; then 6 and 11, as opening judges

pub record MatrixSayable (m : List ℤ) : Type 0 where
  pub four : length m ≡ 4
  pub numbers : Sixteen m

abbrev pub matrix : Section (List ℤ)
matrix = record {
  limits = record { least = 4; most = 4; wrong = 4; unit = 2 };
  count = λ m. 4;
  body = numbers_bytes;
  Sayable = MatrixSayable;
  Gives = λ m. ByNumber opening_number (OpeningCase m);
  value = λ n body. numbers_in body;
  number = λ m. opening_number (opening_of m);
}

-- ---- a word: "5: the word count is above 4096"; "The word's bytes are not tested here"

abbrev pub word : Section (List ℕ)
word = record {
  limits = record { least = 0; most = 4096; wrong = 5; unit = 1 };
  count = length;
  body = λ w. w;
  Sayable = WordRules;
  Gives = λ w number. number ≡ 0;
  value = λ n body. body;
  number = λ w. 0;
}

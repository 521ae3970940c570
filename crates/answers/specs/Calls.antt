-- What the C functions can answer, and what stands in the lent numbers behind a call. Where a call answers no 0, and a run no end, they are as they were, the
-- three counts of a refused run apart.
use Rattle.std.specs.Prelude.{◌≡◌, List, [], ◌∷◌, ◌⊎◌, ℕ, ◌+◌, ◌*◌, ◌/◌, ◌≤◌, ◌<◌, length, get_or, ℤ, pos, negsuc, ◌≤ℤ◌, ◌<ℤ◌}
use Rattle.whole.specs.Range.{at, Within}
use Rattle.digits.specs.Types.{StoredSystem}
use Rattle.digits.specs.Orders.{by_row, by_column, InRows, SameNumbers}
use Rattle.admission.specs.Admission.{SystemNumber}
use Rattle.states.specs.State.{EndNumber}
use Rattle.steps.specs.Step.{DivisorNumber}
use Rattle.judging.specs.Refusal.{RefusalNumber}
use Rattle.jobs.specs.Types.{Job}
use Rattle.numbers.specs.Numbers.{lent_system, wrong_length, Wrote}
use Rattle.run_call.specs.RunCall.{AfterRun, after_run}
use Rattle.read_call.specs.ReadCall.{AfterRead, after_read}
use Rattle.write_call.specs.WriteCall.{AfterWrite, after_write}
use Rattle.answers.specs.Numbers.{MatrixNumber, SectionNumber, UnwrittenNumber, ZeroOr, OrLength}
use Rattle.answers.specs.Answers.{JobInRange, SizeInRange}

-- sled_admit: 0, 3, 6 to 10, 18, or 40
abbrev pub AdmitInRange : ℕ → Type 0
AdmitInRange = OrLength (ZeroOr SystemNumber)

-- sled_system_r, sled_system_b, sled_system_d: 0 and the system's columns, or 40
pub record SystemInRange (s : StoredSystem) (old : List ℤ) (w : Wrote) : Type 0 where
  pub number : OrLength (λ n. n ≡ 0) w.number
  pub columns : w.number ≡ 0 → w.numbers ≡ s.columns
  pub untouched : 1 ≤ w.number → w.numbers ≡ old

-- ---- sled_columns and sled_rows: 0, 3, or 40

abbrev pub TurnNumber : ℕ → Type 0
TurnNumber = OrLength (ZeroOr (λ n. n ≡ 3))

-- all columns of the system in these rows, unused places 0
pub record ColumnsInRange (rows old : List ℤ) (w : Wrote) : Type 0 where
  pub number : TurnNumber w.number
  pub columns : w.number ≡ 0 → SameNumbers (length rows / 8) rows w.numbers
  pub untouched : 1 ≤ w.number → w.numbers ≡ old

-- eight numbers for each digit, as they stand in its columns
pub record RowsInRange (s : StoredSystem) (old : List ℤ) (w : Wrote) : Type 0 where
  pub number : TurnNumber w.number
  pub rows : w.number ≡ 0 → InRows s.count w.numbers
  pub same : w.number ≡ 0 → (j a : ℕ) → j < 8 → a < s.count → at w.numbers (by_row j a) ≡ at s.columns (by_column j a)
  pub untouched : 1 ≤ w.number → w.numbers ≡ old

-- ---- a state's five numbers: entries within ±most, and −1 for nothing held, or a digit that is below the count

pub record HeldInRange (count : ℕ) (z : ℤ) : Type 0 where
  pub from : negsuc 0 ≤ℤ z
  pub below : z <ℤ pos count

pub record StateInRange (most count : ℕ) (l : List ℤ) : Type 0 where
  pub five : length l ≡ 5
  pub entries : Within most l
  pub held : HeldInRange count (at l 4)

-- sled_open: 0, 6, 11, or 40; nothing is held, so the fifth number is −1
pub record OpenInRange (old : List ℤ) (w : Wrote) : Type 0 where
  pub number : OrLength (ZeroOr MatrixNumber) w.number
  pub state : w.number ≡ 0 → StateInRange 1000 0 w.numbers
  pub untouched : 1 ≤ w.number → w.numbers ≡ old

-- ---- sled_run: 0, 15, 20, 21, 22, or 3, 6 to 10, 12, 18, or 40

-- three counts: "bytes taken, digits written", and divisors listed
pub record CountsInRange (input output list counts : List ℕ) : Type 0 where
  pub three : length counts ≡ 3
  pub taken : get_or counts 0 0 ≤ length input
  pub written : get_or counts 1 0 ≤ length output
  pub listed : get_or counts 2 0 ≤ length list

-- of two systems with so many digits, the input, and what was there before: the state's numbers, the output, the list, the counts
pub record RunInRange (input-count output-count : ℕ) (input : List ℕ) (old : List ℤ) (output list counts : List ℕ) (r : AfterRun) : Type 0 where
  pub number : OrLength (λ n. EndNumber n ⊎ RefusalNumber n) r.number
  pub room : length r.output ≡ length output
  pub list_room : length r.divisors ≡ length list
  -- an end: the counts, the digits, the divisors, the state
  pub three : EndNumber r.number → CountsInRange input output list r.counts
  pub digits : EndNumber r.number → (p : ℕ) → p < get_or r.counts 1 0 → get_or r.output p 0 < output-count
  pub divisors : EndNumber r.number → (p : ℕ) → p < get_or r.counts 2 0 → DivisorNumber (get_or r.divisors p 0)
  pub state : EndNumber r.number → StateInRange 1000000000 input-count r.state
  -- a refusal: counts 0, 0 and 0, and the rest as it was; a wrong length: all as it was
  pub refused : RefusalNumber r.number → r ≡ after_run r.number old output list (0 ∷ 0 ∷ 0 ∷ [])
  pub untouched : r.number ≡ wrong_length → r ≡ after_run wrong_length old output list counts

-- a list that is never full, whatever the state: as long as input and output together, and one place more for a digit that is held before the call
abbrev pub LongList : (input output list : List ℕ) → Type 0
LongList input output list = length input + length output + 1 ≤ length list

-- ---- sled_read: 0, number + 256 · section, or 40

pub record FileNumber (answer : ℕ) : Type 0 where
  pub number : ℕ
  pub section : ℕ
  pub both : answer ≡ number + 256 * section
  pub given : SectionNumber section number

-- the job that the numbers stand for: of what is found, the two counts of digits, where the word starts and how long it is
abbrev pub job_from : AfterRead → Job
job_from r = record {
  input = lent_system (get_or r.found 0 0) r.in_columns;
  output = lent_system (get_or r.found 1 0) r.out_columns;
  matrix = r.matrix;
  word = record { start = get_or r.found 2 0; length = get_or r.found 3 0 };
}

pub record ReadInRange (file : List ℕ) (in_columns out_columns m : List ℤ) (found : List ℕ) (r : AfterRead) : Type 0 where
  pub number : OrLength (ZeroOr FileNumber) r.number
  pub four : r.number ≡ 0 → length r.found ≡ 4
  pub job : r.number ≡ 0 → JobInRange file (job_from r)
  pub untouched : 1 ≤ r.number → r ≡ after_read r.number in_columns out_columns m found

-- ---- sled_write: 0, number + 256 · section, or 40

-- of a section, and a number that it can give
pub record WithSection (Gives : ℕ → ℕ → Type 0) (answer : ℕ) : Type 0 where
  pub number : ℕ
  pub section : ℕ
  pub both : answer ≡ number + 256 * section
  pub given : Gives section number

-- of the buffer, and what was there before of the one number for how many bytes are written
pub record WriteInRange (file old : List ℕ) (r : AfterWrite) : Type 0 where
  pub number : OrLength (ZeroOr (WithSection (UnwrittenNumber file))) r.number
  pub room : length r.file ≡ length file
  pub kept : length r.written ≡ length old
  pub one : r.number ≡ 0 → length r.written ≡ 1
  pub size : r.number ≡ 0 → SizeInRange file (get_or r.written 0 0)
  pub untouched : 1 ≤ r.number → r ≡ after_write r.number file old

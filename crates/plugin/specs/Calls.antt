-- What sled_admit answers, for all inputs. (The built-in systems: crates/numbers/specs. Turning a system, opening, a run, reading and writing a job file:
-- the specs of crates columns_call, open_call, run_call, read_call and write_call.)
use Rattle.std.specs.Prelude.{cond, ℕ}
use Rattle.digits.specs.Types.{StoredSystem}
use Rattle.digits.specs.Orders.{system_of}
use Rattle.admission.specs.Admission.{refusal_number, admission_of}
use Rattle.numbers.specs.Numbers.{wrong_length, columns?}

abbrev pub admitted : StoredSystem → ℕ
admitted s = refusal_number (admission_of (system_of s))

-- nothing is written
unfoldable pub admit_number : StoredSystem → ℕ
admit_number s = cond (columns? s.columns) (admitted s) wrong_length

-- "Files don't change": the bytes of a system that stands in columns are those of its rows, as they were when rows stood in memory.
use Rattle.whole.proofs.Laws.{◌≡◌, ap, List, ◌++◌, ℕ, ◌*◌, ◌≤◌, length, ℤ}
use Rattle.digits.proofs.Laws.{columns_of, rows_again}
use Rattle.job_sections.specs.Layout.{two_bytes, numbers_bytes, system_bytes}

pub same_bytes : (n : ℕ) → n ≤ 16 → (rows : List ℤ) → length rows ≡ 8 * n → system_bytes (record { count = n; columns = columns_of rows }) ≡ two_bytes n ++ numbers_bytes rows
same_bytes n few rows e = ap (λ (l : List ℤ). two_bytes n ++ numbers_bytes l) (rows_again few rows e)

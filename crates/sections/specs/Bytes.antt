-- Lists of bytes, and numbers of two bytes.
use Rattle.std.specs.Prelude.{List, [], ◌∷◌, ℕ, ◌+◌, ◌*◌, ◌/◌, ◌%◌, ◌<◌, get_or}

-- a list of bytes, as every slice of bytes is
pub record Bytes (l : List ℕ) : Type 0 where
  pub byte : (i : ℕ) → get_or l i 0 < 256

-- "2 bytes, low byte first"
abbrev pub two_bytes : ℕ → List ℕ
two_bytes n = n % 256 ∷ n / 256 ∷ []

-- the number of two bytes at a place
abbrev pub pair_at : List ℕ → ℕ → ℕ
pair_at bytes p = get_or bytes p 0 + 256 * get_or bytes (p + 1) 0

-- a section's count comes first
abbrev pub count_of : List ℕ → ℕ
count_of bytes = pair_at bytes 0

-- "each section is written into the rest of the buffer behind the ones before it": what writing one leaves in the rest that it was lent, and how many bytes
-- it hands back.
use Rattle.std.specs.Prelude.{◌≡◌, List, ◌++◌, ℕ, ◌+◌, ◌*◌, length, take, drop, ℤ}
use Rattle.whole.specs.Range.{at}
use Rattle.whole.specs.Written.{written}
use Rattle.digits.specs.Orders.{tabulated, column_place}
use Rattle.job_sections.specs.Layout.{two_bytes, complement}

-- the section's bytes, over the front of what stood there, and how many they are
pub record Filled (bytes old new : List ℕ) (n : ℕ) : Type 0 where
  pub filled : new ≡ written bytes old
  pub size : length bytes ≡ n

-- the two bytes of a number, in the place of the i-th of some that stand one behind the other
abbrev pub number_put : ℕ → ℤ → List ℕ → List ℕ
number_put i z old = take (2 * i) old ++ (two_bytes (complement z) ++ drop 2 (drop (2 * i) old))

-- "rows of eight": the row of digit a, out of the columns
unfoldable pub row_of : List ℤ → ℕ → List ℤ
unfolding tabulated
row_of columns a = tabulated 8 (λ j. at columns (column_place (8 * a + j)))

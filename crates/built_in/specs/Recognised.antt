-- What it is for a system to be a built-in one: it has as many digits, with the same numbers, whatever stands in unused places. (No document's words: a
-- run answers the same whether it looks for this or not.)
use Rattle.std.specs.Prelude.{◌≡◌, Bool, true, false, List, ℕ, ◌*◌, ℤ}
use Rattle.digits.specs.BuiltIn.{joined}
use Rattle.whole.specs.Range.{at}
use Rattle.digits.specs.Orders.{by_column, tabulated, rows_in}

-- the row of digit a, as it stands in columns
unfoldable pub row_in : List ℤ → ℕ → List ℤ
unfolding tabulated
row_in columns a = tabulated 8 (λ j. at columns (by_column j a))

-- the rows of the n digits that stand in columns are those of the table
abbrev pub IsTable : List (List ℤ) → ℕ → List ℤ → Type 0
IsTable rows n columns = rows_in (8 * n) columns ≡ joined rows

-- an answer that says exactly whether a sentence holds
pub record Decides (r : Bool) (P : Type 0) : Type 0 where
  pub yes : r ≡ true → P
  pub no : r ≡ false → P → ⊥

-- The two orders in which the numbers of a system stand one behind the other. "Digit a has a transformation F and an interval W, written as one row of
-- eight numbers: F as a b c d, then W as x0 x1 y0 y1." In rows they are printed by document 01, stored in a job file and written by a person. In memory
-- they stand in columns: "eight runs of sixteen numbers, first all a, then all b, and so on, unused places 0". Only this crate knows where: all others
-- ask for a digit's `transformation` and `interval`.
use Rattle.std.specs.Prelude.{◌≡◌, List, [], ◌∷◌, ℕ, zero, suc, ◌+◌, ◌*◌, ◌/◌, ◌%◌, ◌≤◌, ◌<◌, length, ℤ, pos}
use Rattle.whole.specs.Range.{at}
use Rattle.digits.specs.Types.{StoredSystem, SystemView}
use Rattle.digits.specs.System.{System}

-- an order says at which place number j of digit a stands
abbrev pub Order : Type 0
Order = ℕ → ℕ → ℕ

abbrev pub by_row : Order
by_row j a = 8 * a + j

abbrev pub by_column : Order
by_column j a = 16 * j + a

-- ---- a system by its numbers, in either order

-- four numbers of digit a, from number j on
unfoldable pub four_by : Order → List ℤ → ℕ → ℕ → List ℤ
four_by place numbers a j =
    at numbers (place j a) ∷ at numbers (place (j + 1) a) ∷ at numbers (place (j + 2) a) ∷ at numbers (place (j + 3) a) ∷ []

-- "F as a b c d, then W as x0 x1 y0 y1"
unfoldable pub transformation_by : Order → List ℤ → ℕ → List ℤ
unfolding four_by
transformation_by place numbers a = four_by place numbers a 0

unfoldable pub interval_by : Order → List ℤ → ℕ → List ℤ
unfolding four_by
interval_by place numbers a = four_by place numbers a 4

abbrev pub system_by : Order → ℕ → List ℤ → System
system_by place n numbers = record { count = n; transformation = transformation_by place numbers; interval = interval_by place numbers }

-- n rows, one behind the other, are a system
abbrev pub as_written : ℕ → List ℤ → System
as_written n rows = system_by by_row n rows

-- so are columns, of which n digits are used
abbrev pub lent : ℕ → List ℤ → System
lent n columns = system_by by_column n columns

abbrev pub transformation_at : List ℤ → ℕ → List ℤ
transformation_at columns a = transformation_by by_column columns a

abbrev pub interval_at : List ℤ → ℕ → List ℤ
interval_at columns a = interval_by by_column columns a

-- and so is what stands in memory: "1 to 16 digits", and the columns
abbrev pub system_of : StoredSystem → System
system_of s = lent s.count s.columns

-- what is lent, as it would stand in memory
abbrev pub lent_system : ℕ → List ℤ → StoredSystem
lent_system n columns = record { count = n; columns = columns }

-- what a view sees, as it stands in memory, and as a system
abbrev pub seen : SystemView → StoredSystem
seen v = lent_system v.count v.columns.now

abbrev pub viewed : SystemView → System
viewed v = system_of (seen v)

-- ---- which numbers are there

-- eight columns of sixteen numbers
pub record Columns (columns : List ℤ) : Type 0 where
  pub size : length columns ≡ 128

-- the numbers of digit a are there
pub record DigitThere (columns : List ℤ) (a : ℕ) : Type 0 where
  pub size : length columns ≡ 128
  pub below : a < 16

-- ---- from one order to the other

-- so many numbers, by what stands at each place
unfoldable pub tabulated : ℕ → (ℕ → ℤ) → List ℤ
tabulated zero number = []
tabulated (suc n) number = number 0 ∷ tabulated n (λ p. number (suc p))

-- at place p of the columns stands number p/16 of digit p%16: where the rows have no such digit, 0, which is what `at` reads behind a list
abbrev pub row_place : ℕ → ℕ
row_place p = by_row (p / 16) (p % 16)

unfoldable pub columns_of : List ℤ → List ℤ
unfolding tabulated
columns_of rows = tabulated 128 (λ p. at rows (row_place p))

-- at place p of the rows stands number p%8 of digit p/8
abbrev pub column_place : ℕ → ℕ
column_place p = by_column (p % 8) (p / 8)

unfoldable pub rows_in : ℕ → List ℤ → List ℤ
unfolding tabulated
rows_in k columns = tabulated k (λ p. at columns (column_place p))

-- "rows of eight": the numbers of the digits that a system has, row by row
abbrev pub rows_of : StoredSystem → List ℤ
rows_of s = rows_in (8 * s.count) s.columns

-- ---- "Each system in the old order has exactly one in the new"

-- n digits in rows: eight numbers each, and nothing behind them
pub record InRows (n : ℕ) (rows : List ℤ) : Type 0 where
  pub size : length rows ≡ 8 * n

-- n digits in columns: "unused places 0"
pub record InColumns (n : ℕ) (columns : List ℤ) : Type 0 where
  pub size : length columns ≡ 128
  pub unused : (j a : ℕ) → j < 8 → n ≤ a → a < 16 → at columns (by_column j a) ≡ pos 0

-- the same system in both: number for number
pub record SameNumbers (n : ℕ) (rows columns : List ℤ) : Type 0 where
  pub in_rows : InRows n rows
  pub in_columns : InColumns n columns
  pub same : (j a : ℕ) → j < 8 → a < n → at columns (by_column j a) ≡ at rows (by_row j a)

-- rows have these columns and no others, and columns these rows and no others
pub record OneInColumns (n : ℕ) : Type 0 where
  pub has : (rows : List ℤ) → InRows n rows → SameNumbers n rows (columns_of rows)
  pub no_other : (rows columns : List ℤ) → SameNumbers n rows columns → columns ≡ columns_of rows
  pub back : (columns : List ℤ) → InColumns n columns → SameNumbers n (rows_in (8 * n) columns) columns
  pub no_other_back : (rows columns : List ℤ) → SameNumbers n rows columns → rows ≡ rows_in (8 * n) columns

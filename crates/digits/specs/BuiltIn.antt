-- The three systems that are built in, "(F ; W)", with document 01's numbers and signs.
use Rattle.std.specs.Prelude.{List, [], ◌∷◌, ◌++◌, ℕ, zero, suc, length, ℤ, pos, negsuc}
use Rattle.symmetry.specs.Symmetry.{turned, reflected}
use Rattle.digits.specs.Types.{StoredSystem}
use Rattle.digits.specs.System.{System}
use Rattle.digits.specs.Orders.{columns_of, as_written}

-- −n, so that the tables read as they are printed
abbrev pub minus : ℕ → ℤ
minus zero = pos zero
minus (suc n) = negsuc n

abbrev pub row : ℤ → ℤ → ℤ → ℤ → ℤ → ℤ → ℤ → ℤ → List ℤ
row a b c d x0 x1 y0 y1 = a ∷ b ∷ c ∷ d ∷ x0 ∷ x1 ∷ y0 ∷ y1 ∷ []

abbrev pub rows_r : List (List ℤ)
rows_r =
    row (pos 1) (pos 0) (pos 1) (pos 1) (pos 0) (pos 1) (pos 1) (pos 1) ∷
    row (pos 1) (pos 1) (pos 0) (pos 1) (pos 1) (pos 1) (pos 1) (pos 0) ∷
    row (pos 1) (minus 1) (pos 0) (pos 1) (pos 1) (pos 0) (pos 1) (minus 1) ∷
    row (pos 1) (pos 0) (minus 1) (pos 1) (minus 1) (pos 1) (pos 0) (pos 1) ∷ []

abbrev pub rows_d : List (List ℤ)
rows_d =
    row (pos 1) (minus 1) (pos 0) (pos 2) (minus 2) (pos 1) (pos 0) (pos 1) ∷
    row (pos 1) (pos 0) (pos 0) (pos 2) (minus 1) (pos 2) (pos 1) (pos 2) ∷
    row (pos 1) (pos 1) (pos 0) (pos 2) (pos 0) (pos 1) (pos 2) (pos 1) ∷
    row (pos 2) (pos 0) (pos 0) (pos 1) (pos 3) (pos 2) (pos 3) (minus 2) ∷ []

-- B is row 0 and two laws (crates/symmetry): "Let the rows be worked out from row 0 by these." From a to a+2 by turning, "counting modulo 8", and from a to 7−a
-- by reflecting. Along this way every number is document 01's, sign included; that no other way leads to other digits is `b_by_symmetry`
abbrev pub row_b0 : List ℤ
row_b0 = row (pos 1) (pos 0) (pos 1) (pos 2) (minus 1) (pos 3) (pos 1) (pos 1)

unfoldable pub rows_b : List (List ℤ)
unfolding turned reflected
rows_b =
    let b2 = turned row_b0 in
    let b4 = turned b2 in
    let b7 = reflected row_b0 in
    let b1 = turned b7 in
    let b3 = turned b1 in
    let b5 = turned b3 in
    let b6 = reflected b1 in
    row_b0 ∷ b1 ∷ b2 ∷ b3 ∷ b4 ∷ b5 ∷ b6 ∷ b7 ∷ []

-- rows one behind the other
abbrev pub joined : List (List ℤ) → List ℤ
joined [] = []
joined (r ∷ rs) = r ++ joined rs

-- the system that a table is: as many digits as it has rows
abbrev pub table_of : List (List ℤ) → System
table_of rs = as_written (length rs) (joined rs)

-- a table in memory: as many digits as it has rows, in columns
unfoldable pub stored : List (List ℤ) → StoredSystem
unfolding columns_of
stored rs = record { count = length rs; columns = columns_of (joined rs) }

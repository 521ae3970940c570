-- What makes system B: row 0 and two laws. Nobody has to believe the table below. `b_by_symmetry` (proofs/SystemB.antt) proves that `rows_b`, which is worked
-- out from row 0, is this table, that all sixteen laws hold of it, and that no other system has row 0 and the laws.
use Rattle.std.specs.Prelude.{◌≡◌, List, [], ◌∷◌, ℕ, ◌+◌, ◌-◌, ◌%◌, ◌<◌, get_or, ℤ, pos}
use Rattle.symmetry.specs.Symmetry.{turned, reflected}
use Rattle.symmetry.specs.Says.{SameDigit}
use Rattle.digits.specs.BuiltIn.{minus, row, rows_b}

-- document 01: "System B (001, the maximal cover)"
abbrev pub printed_b : List (List ℤ)
printed_b =
    row (pos 1) (pos 0) (pos 1) (pos 2) (minus 1) (pos 3) (pos 1) (pos 1) ∷
    row (pos 1) (pos 1) (pos 0) (pos 2) (pos 0) (pos 1) (pos 2) (pos 1) ∷
    row (pos 2) (pos 0) (pos 1) (pos 1) (pos 1) (pos 2) (pos 1) (pos 0) ∷
    row (pos 2) (pos 1) (pos 0) (pos 1) (pos 1) (pos 1) (pos 3) (minus 1) ∷
    row (pos 2) (minus 1) (pos 0) (pos 1) (pos 3) (pos 1) (pos 1) (minus 1) ∷
    row (pos 2) (pos 0) (minus 1) (pos 1) (pos 1) (pos 0) (pos 1) (minus 2) ∷
    row (pos 1) (minus 1) (pos 0) (pos 2) (minus 2) (pos 1) (pos 0) (pos 1) ∷
    row (pos 1) (pos 0) (minus 1) (pos 2) (minus 1) (pos 1) (pos 1) (pos 3) ∷ []

abbrev pub row_at : List (List ℤ) → ℕ → List ℤ
row_at rows a = get_or rows a []

-- "F of a+2 is R F_a R inverse, counting modulo 8, and F of 7−a at x is −F_a(−x); the intervals follow the same laws"
pub record Symmetric (rows : List (List ℤ)) : Type 0 where
  pub turns : (a : ℕ) → a < 8 → SameDigit (turned (row_at rows a)) (row_at rows ((a + 2) % 8))
  pub reflects : (a : ℕ) → a < 8 → SameDigit (reflected (row_at rows a)) (row_at rows (7 - a))

-- "Every number, sign included, stays."
pub record BySymmetry : Type 0 where
  pub stays : rows_b ≡ printed_b
  pub symmetric : Symmetric rows_b
  pub no_other : (rows : List (List ℤ)) → SameDigit (row_at rows_b 0) (row_at rows 0) → Symmetric rows →
      (a : ℕ) → a < 8 → SameDigit (row_at rows_b a) (row_at rows a)

-- Two systems that the documents name and that are refused, as tables of rows.
use Rattle.std.specs.Prelude.{List, [], ◌∷◌, ℤ, pos}
use Rattle.digits.specs.BuiltIn.{minus, row}

-- "Two digits, both F = 1 0 0 1, with intervals (0, infinity) and (infinity, 0)"
abbrev pub identities : List (List ℤ)
identities =
    row (pos 1) (pos 0) (pos 0) (pos 1) (pos 0) (pos 1) (pos 1) (pos 0) ∷
    row (pos 1) (pos 0) (pos 0) (pos 1) (pos 1) (pos 0) (pos 0) (minus 1) ∷ []

-- "Document 004's plain binary system, with 2x on (1, −1)": there (x − 1)/2 on (−1, 0), (x + 1)/2 on (0, 1), and 2x on (1, −1)
abbrev pub plain_binary : List (List ℤ)
plain_binary =
    row (pos 1) (minus 1) (pos 0) (pos 2) (minus 1) (pos 1) (pos 0) (pos 1) ∷
    row (pos 1) (pos 1) (pos 0) (pos 2) (pos 0) (pos 1) (pos 1) (pos 1) ∷
    row (pos 2) (pos 0) (pos 0) (pos 1) (pos 1) (pos 1) (pos 1) (minus 1) ∷ []

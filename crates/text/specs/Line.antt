-- How a line is written. Document 01, "The program": "Fields are parted by one blank".
use Rattle.std.specs.Prelude.{List, [], ◌∷◌, ◌++◌, ℕ}
use Rattle.text.specs.Text.{bytes_of}

-- behind each field stands a blank, and behind the last the line's end; a line with no field is empty
abbrev pub line_of : List (List ℕ) → List ℕ
line_of [] = bytes_of "\n"
line_of (f ∷ []) = f ++ bytes_of "\n"
line_of (f ∷ g ∷ fs) = (f ++ bytes_of " ") ++ line_of (g ∷ fs)

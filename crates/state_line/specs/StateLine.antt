-- Document 01, "The program": the second of three lines, "the four entries and the held digit or `-`".
use Rattle.std.specs.Prelude.{List, [], ◌∷◌, ℕ}
use Rattle.whole.specs.Range.{at}
use Rattle.text.specs.Text.{bytes_of}
use Rattle.text.specs.Number.{decimal, signed_text}
use Rattle.text.specs.Line.{line_of}
use Rattle.states.specs.Types.{Held, None, Some, State}

-- "the held digit or `-`"
unfoldable pub held_text : Held → List ℕ
held_text None = bytes_of "-"
held_text (Some d) = decimal d

-- "the four entries and the held digit or `-`"
unfoldable pub state_line_of : State → List ℕ
state_line_of s = line_of
    (signed_text (at s.matrix 0) ∷ signed_text (at s.matrix 1) ∷ signed_text (at s.matrix 2) ∷ signed_text (at s.matrix 3) ∷ held_text s.held ∷ [])

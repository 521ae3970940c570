-- How a plug-in writes the state of a session over two words: eleven numbers, the eight, then the held digit of x or −1, that of y or −1, and whose turn it
-- is, 0 for x and 1 for y.
use Rattle.std.specs.Prelude.{Bool, cond, ◌&&◌, List, [], ◌∷◌, ◌++◌, ℤ, pos, drop}
use Rattle.std.specs.Int.Signed.{le_z, lt_z}
use Rattle.whole.specs.Range.{at}
use Rattle.plane.specs.Scale.{entries}
use Rattle.bilinear.specs.Form.{form}
use Rattle.states.specs.Types.{Held, Some, Stop}
use Rattle.states.specs.State.{refused?}
use Rattle.numbers.specs.Numbers.{held_number, held_from}
use Rattle.two_states.specs.Types.{Turn, OfX, OfY, TwoState}

abbrev pub turn_number : Turn → ℤ
turn_number OfX = pos 0
turn_number OfY = pos 1

unfoldable pub two_numbers : TwoState → List ℤ
two_numbers s = entries s.form.numerator ++ entries s.form.denominator ++ held_number s.x ∷ held_number s.y ∷ turn_number s.turn ∷ []

-- what the last number stands for: 0 is x's turn, and any other y's
abbrev pub turn_from : ℤ → Turn
turn_from z = cond (lt_z (pos 0) z) OfY OfX

-- whether it is a turn: 0 or 1
abbrev pub turn? : ℤ → Bool
turn? z = le_z (pos 0) z && le_z z (pos 1)

-- "A turn that is neither 0 nor 1 is 12": such a state is read as one that holds, of x, a digit that no system has
abbrev pub held_by : ℤ → Held → Held
held_by z h = cond (turn? z) h (Some 255)

unfoldable pub two_from : List ℤ → TwoState
two_from l = record {
  form = form (entries l) (entries (drop 4 l));
  x = held_by (at l 10) (held_from (at l 8));
  y = held_from (at l 9);
  turn = turn_from (at l 10);
}

-- the eleven numbers behind a run: a refusal leaves them as they came, whatever they were
unfoldable pub two_after : Stop → TwoState → List ℤ → List ℤ
two_after stop s old = cond (refused? stop) old (two_numbers s)

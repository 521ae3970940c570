-- A test of an interval's ends by which it is not narrower than a right angle. The ends are taken for two arrows here, from (0, 0) to (x0, x1) and to
-- (y0, y1): the angle between them is below a right angle exactly if their dot product is above 0. What is included in such an interval is as narrow
-- (`narrow`, proofs/Narrow.antt), so that what passes the test is included in none.
use Rattle.std.specs.Prelude.{Bool, not, ◌&&◌, ◌||◌, List, ℤ, pos, ◌+ℤ◌, ◌-ℤ◌}
use Rattle.std.specs.Bool.{beq}
use Rattle.std.specs.Int.Signed.{lt_z}
use Rattle.whole.specs.Range.{at}

-- one is below 0 and the other is not
abbrev pub apart? : ℤ → ℤ → Bool
apart? p q = not (beq (lt_z p (pos 0)) (lt_z q (pos 0)))

-- both axes part the two arrows, or both diagonals do
unfoldable pub wide? : List ℤ → Bool
wide? i =
    apart? (at i 0) (at i 2) && apart? (at i 1) (at i 3) ||
    apart? (at i 0 -ℤ at i 1) (at i 2 -ℤ at i 3) && apart? (at i 0 +ℤ at i 1) (at i 2 +ℤ at i 3)

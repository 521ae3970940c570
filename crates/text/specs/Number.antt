-- How a number is written: in decimal, with no 0 in front.
use Rattle.std.specs.Prelude.{cond, List, [], ◌∷◌, ◌++◌, ℕ, zero, suc, ◌+◌, ◌*◌, ◌-◌, ◌/◌, ◌%◌, ltb, ℤ, pos, nat_abs}
use Prim.Native.Char.{code}
use Rattle.std.specs.Int.Signed.{lt_z}
use Rattle.text.specs.Text.{bytes_of}

-- the byte of a decimal digit
abbrev pub glyph : ℕ → ℕ
glyph d = code "0" + d

-- the digits of n, of which there are k at most: what stands in front of the last digit, where n has more than one, and the last digit
unfoldable pub digits_by : ℕ → ℕ → List ℕ
digits_by zero n = []
digits_by (suc k) n = let front = digits_by k (n / 10) in cond (ltb n 10) [] front ++ (glyph (n % 10) ∷ [])

-- no number has more digits than n + 1
unfoldable pub decimal : ℕ → List ℕ
decimal n = digits_by (suc n) n

-- the number that a text of decimal digits says, behind a number that stands in front of it; the theorem `decimal_says` proves that `decimal n` says n, and
-- `no_0_in_front` that no 0 stands in front
abbrev pub value_by : ℕ → List ℕ → ℕ
value_by front [] = front
value_by front (b ∷ bs) = value_by (10 * front + (b - code "0")) bs

-- `-` where a number is below 0, and how far it lies from 0
unfoldable pub signed_text : ℤ → List ℕ
signed_text z = cond (lt_z z (pos 0)) (bytes_of "-") [] ++ decimal (nat_abs z)

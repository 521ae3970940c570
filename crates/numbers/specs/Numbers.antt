-- How a plug-in writes a system and a state: as plain numbers.
use Rattle.std.specs.Prelude.{Bool, cond, List, [], ◌∷◌, ◌++◌, ℕ, eqb, ltb, length, ℤ, pos, negsuc, nat_abs}
use Rattle.std.specs.Int.Signed.{lt_z}
use Rattle.whole.specs.Range.{at}
use Rattle.plane.specs.Scale.{entries}
use Rattle.digits.specs.Types.{StoredSystem}
use Rattle.states.specs.Types.{Held, None, Some, State, Stop}
use Rattle.states.specs.State.{refused?}
-- what is lent, as it would stand in memory
pub use Rattle.digits.specs.Orders.{lent_system}

-- the number that refuses a slice of the wrong length: a number that no rule of document 01 has
abbrev pub wrong_length : ℕ
wrong_length = 40

-- ---- a system: its count of digits, and 128 numbers in columns

-- "A length other than 128 is 40."
abbrev pub columns? : List ℤ → Bool
columns? l = eqb (length l) 128

-- ---- a state: the four entries of the matrix, then the held digit, or −1 for none

abbrev pub held_number : Held → ℤ
held_number None = negsuc 0
held_number (Some d) = pos d

unfoldable pub state_numbers : State → List ℤ
state_numbers s = entries s.matrix ++ held_number s.held ∷ []

-- what a fifth number stands for: −1 for nothing, 0 to 255 for that digit. Any other, below −1 or above 255, is a digit that no system has, as 255 is.
unfoldable pub held_from : ℤ → Held
held_from z = cond (lt_z z (negsuc 0)) (Some 255) (cond (lt_z z (pos 0)) None (cond (ltb 255 (nat_abs z)) (Some 255) (Some (nat_abs z))))

unfoldable pub state_from : List ℤ → State
state_from l = record { matrix = entries l; held = held_from (at l 4) }

-- the five numbers behind a run: a refusal leaves them as they came, whatever they were
unfoldable pub state_after : Stop → State → List ℤ → List ℤ
state_after stop s old = cond (refused? stop) old (state_numbers s)

-- ---- what a function that writes numbers leaves: its answer, and the numbers
pub record Wrote : Type 0 where
  pub number : ℕ
  pub numbers : List ℤ

abbrev pub wrote : ℕ → List ℤ → Wrote
wrote n l = record { number = n; numbers = l }

-- ---- a system that is handed out: its numbers, into a slice of exactly as many
unfoldable pub handed_out : StoredSystem → List ℤ → Wrote
handed_out s old = cond (columns? old) (wrote 0 s.columns) (wrote wrong_length old)

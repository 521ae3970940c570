-- A step as a plan: it asks for what it needs in the order of the rules (a byte, a place for a digit, a place for a divisor), and stops where that is
-- missing. Only a plan that is followed to its `go` does anything; one that stops has done nothing. So a step that is written as a plan takes only bytes
-- that are there, writes only where there is room, and does the same before more: no instance has to prove any of that.
use Rattle.std.specs.Prelude.{List, [], ◌∷◌, ℕ, zero, suc}
use Rattle.runs.specs.Supply.{Supply, Deed, nothing, and_then, spend}
use Rattle.runs.specs.Machine.{Outcome, goes, halts, Machine}

pub data Plan (State Stop : Type 0) : Type 0 where
  stop : Stop → Plan State Stop
  go : State → Plan State Stop
  -- take the next byte of x, or of y; or stop
  byte_x : Stop → (ℕ → Plan State Stop) → Plan State Stop
  byte_y : Stop → (ℕ → Plan State Stop) → Plan State Stop
  -- write a digit, list a divisor; or stop
  digit : Stop → ℕ → Plan State Stop → Plan State Stop
  divisor : Stop → ℕ → Plan State Stop → Plan State Stop

abbrev pub took_x : ℕ → Deed
took_x b = record { x = b ∷ []; y = []; digits = []; divisors = [] }

abbrev pub took_y : ℕ → Deed
took_y b = record { x = []; y = b ∷ []; digits = []; divisors = [] }

abbrev pub gave : ℕ → Deed
gave g = record { x = []; y = []; digits = g ∷ []; divisors = [] }

abbrev pub listed : ℕ → Deed
listed g = record { x = []; y = []; digits = []; divisors = g ∷ [] }

-- a digit written, and the divisor of its step listed
abbrev pub gave_by : ℕ → ℕ → Deed
gave_by b g = record { x = []; y = []; digits = b ∷ []; divisors = g ∷ [] }

module _ {State Stop : Type 0} where
  -- a deed, and then what an outcome does; nothing where it halts
  abbrev pub first : Deed → Outcome State Stop → Outcome State Stop
  first d (goes t e) = goes t (and_then d e)
  first d (halts e) = halts e

  -- the next byte, if there is one; a place, if one is free
  abbrev pub with_byte : Stop → List ℕ → (ℕ → Outcome State Stop) → Outcome State Stop
  with_byte e [] k = halts e
  with_byte e (b ∷ l) k = k b

  abbrev pub with_place : Stop → ℕ → Outcome State Stop → Outcome State Stop
  with_place e zero v = halts e
  with_place e (suc n) v = v

  unfoldable pub follow : Plan State Stop → Supply → Outcome State Stop
  follow (stop e) r = halts e
  follow (go t) r = goes t nothing
  follow (byte_x e k) r = with_byte e r.x (λ b. first (took_x b) (follow (k b) (spend (took_x b) r)))
  follow (byte_y e k) r = with_byte e r.y (λ b. first (took_y b) (follow (k b) (spend (took_y b) r)))
  follow (digit e g p) r = with_place e r.room (first (gave g) (follow p (spend (gave g) r)))
  follow (divisor e g p) r = with_place e r.list (first (listed g) (follow p (spend (listed g) r)))

  -- a machine that goes by plans: the plan may be chosen by the state and by what lies ahead
  abbrev pub planned : (State → Supply → Plan State Stop) → (State → ℕ) → Stop → Machine State Stop
  planned plan held idle = record { step = λ s r. follow (plan s r) r; held = held; idle = idle }

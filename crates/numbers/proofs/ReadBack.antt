-- What a plug-in keeps between two calls is what the library would have kept: the five numbers of a state are read as that state. (A system is passed as it stands in
-- memory.) So the theorems on sessions (crate `meaning`) speak of a plug-in's calls.
use Rattle.whole.proofs.Laws.{◌≡◌, refl, ◌≤◌, arith, length, pos, le-ltb}
use Rattle.plane.proofs.Laws.{entries}
use Rattle.states.proofs.Laws.{Held, None, Some, State}
use Rattle.numbers.specs.Numbers.{held_number, held_from, state_numbers, state_from}
use Rattle.numbers.proofs.Lists.{known}

-- a held digit is a byte
abbrev pub Byte : Held → Type 0
Byte None = Unit {0}
Byte (Some d) = d ≤ 255

pub held_back : (h : Held) → Byte h → held_from (held_number h) ≡ h
unfolding held_from
held_back None b = refl
held_back (Some d) b = rw (le-ltb d 0 (omega arith), le-ltb 255 d b)

pub state_back : (s : State) → length s.matrix ≡ 4 → Byte s.held → state_from (state_numbers s) ≡ s
unfolding state_from state_numbers
state_back s n b =
    let four : entries s.matrix ≡ s.matrix = rw (known (pos 0) 4 s.matrix n) in
    λ i. record { matrix = four i; held = held_back s.held b i }

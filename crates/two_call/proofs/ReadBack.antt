-- What a plug-in keeps between two calls is what the library would have kept: the eleven numbers of a state are read as that state. So the theorems on sessions over two
-- words (crate `two_meaning`) speak of a plug-in's calls. And an eleventh number that is neither 0 nor 1 is refused, whatever the other ten are.
use Rattle.whole.proofs.Laws.{◌≡◌, refl, Bool, true, false, ◌&&◌, List, ℕ, ◌≤◌, ℤ, pos, at, length, le-ltb}
use Rattle.plane.proofs.Laws.{entries}
use Rattle.bilinear.proofs.Laws.{form, lowest_form?, within_form?}
use Rattle.states.proofs.Laws.{held_digit?}
use Rattle.two_states.proofs.Laws.{Turn, OfX, OfY, TwoState, two_state?}
use Rattle.numbers.proofs.Laws.{known, Byte, held_back}
use Rattle.two_call.specs.TwoNumbers.{turn_number, turn_from, turn?, two_numbers, two_from}

-- ---- what is written is read back

-- each turn's number is a turn, and that turn
turn_back : (t : Turn) → (turn? (turn_number t) ≡ true) × (turn_from (turn_number t) ≡ t)
turn_back OfX = (refl, refl)
turn_back OfY = (refl, refl)

pub two_back : (s : TwoState) → length s.form.numerator ≡ 4 → length s.form.denominator ≡ 4 → Byte s.x → Byte s.y → two_from (two_numbers s) ≡ s
unfolding two_from two_numbers
two_back s n m bx by =
    let over : entries s.form.numerator ≡ s.form.numerator = rw (known (pos 0) 4 s.form.numerator n) in
    let under : entries s.form.denominator ≡ s.form.denominator = rw (known (pos 0) 4 s.form.denominator m) in
    let turn = turn_back s.turn in
    rw turn.0 (λ i. record { form = form (over i) (under i); x = held_back s.x bx i; y = held_back s.y by i; turn = turn.1 i })

-- ---- "12 for a state that .. holds a number that is no digit of the system": so is a turn that is none

and_false : (a b : Bool) → (a && false && b) ≡ false
and_false true b = refl
and_false false b = refl

pub bad_turn_refused : (n : ℕ) (l : List ℤ) → n ≤ 255 → turn? (at l 10) ≡ false → two_state? n (two_from l) ≡ false
unfolding two_from two_state?
bad_turn_refused n l h bad =
    let s = two_from l in
    rw (bad, le-ltb 255 n h) (and_false (within_form? 1000000000 s.form && lowest_form? s.form) (held_digit? n s.y))

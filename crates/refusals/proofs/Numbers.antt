-- The numbers of refusal: no two refusals have the same (`one_refusal`), and none has 0, which passes (`numbered`).
use Rattle.std.proofs.Common.{◌≡◌, refl, ap, ◌∙◌, sym, ℕ, ◌≤◌, List, [], ◌∷◌, get_or}
use Rattle.refusals.specs.Types.{Refusal, CutOff, BytesFollow, WrongCount, MatrixCount, WordCount, OutOfRange, NotAbove, NotBelow, NotLowest, Uncovered, MatrixNotAbove, State, BufferShort, NotExpanding}
use Rattle.refusals.specs.Numbers.{number_of}
use native.Mathlib.Omega.{arith}

-- the refusals in the order of their numbers, from 0 on; no refusal has 0, 13, or one from 15 to 17
abbrev in_order : List Refusal
in_order =
    CutOff ∷ CutOff ∷ BytesFollow ∷ WrongCount ∷ MatrixCount ∷ WordCount ∷ OutOfRange ∷ NotAbove ∷ NotBelow ∷ NotLowest ∷ Uncovered ∷ MatrixNotAbove ∷ State ∷ State ∷ BufferShort ∷ []

refusal_of : ℕ → Refusal
refusal_of n = get_or in_order n NotExpanding

there : (r : Refusal) → refusal_of (number_of r) ≡ r
unfolding refusal_of
there CutOff = refl
there BytesFollow = refl
there WrongCount = refl
there MatrixCount = refl
there WordCount = refl
there OutOfRange = refl
there NotAbove = refl
there NotBelow = refl
there NotLowest = refl
there Uncovered = refl
there MatrixNotAbove = refl
there State = refl
there BufferShort = refl
there NotExpanding = refl

pub one_refusal : {r r' : Refusal} → number_of r ≡ number_of r' → r ≡ r'
one_refusal {r} {r'} e = sym (there r) ∙ ap refusal_of e ∙ there r'

pub numbered : (r : Refusal) → 1 ≤ number_of r
numbered CutOff = omega arith
numbered BytesFollow = omega arith
numbered WrongCount = omega arith
numbered MatrixCount = omega arith
numbered WordCount = omega arith
numbered OutOfRange = omega arith
numbered NotAbove = omega arith
numbered NotBelow = omega arith
numbered NotLowest = omega arith
numbered Uncovered = omega arith
numbered MatrixNotAbove = omega arith
numbered State = omega arith
numbered BufferShort = omega arith
numbered NotExpanding = omega arith

-- The four entries of a state and its held digit, field by field: what is left of the line behind so many entries.
use Rattle.whole.proofs.Laws.{◌≡◌, refl, List, [], ◌∷◌, ◌++◌, ℕ, zero, suc, ◌+◌, ◌<◌, add-one, arith, drop, ℤ, at}
use Rattle.text.specs.Line.{line_of}
use Rattle.text.proofs.Laws.{signed_text}
use Rattle.states.proofs.Laws.{State}
use Rattle.state_line.specs.StateLine.{held_text}

abbrev pub behind : State → ℕ → List ℕ
behind s i = line_of (drop i (signed_text (at s.matrix 0) ∷ signed_text (at s.matrix 1) ∷ signed_text (at s.matrix 2) ∷ signed_text (at s.matrix 3) ∷ held_text s.held ∷ []))

pub entry_more : (s : State) (i : ℕ) {z : ℤ} → z ≡ at s.matrix i → i < 4 → behind s i ≡ (signed_text z ++ (32 ∷ [])) ++ behind s (i + 1)
entry_more s i e h = rw (e, add-one i) (by i h)
  where
    by : (i : ℕ) → i < 4 → behind s i ≡ (signed_text (at s.matrix i) ++ (32 ∷ [])) ++ behind s (suc i)
    by zero h = refl
    by (suc zero) h = refl
    by (suc (suc zero)) h = refl
    by (suc (suc (suc zero))) h = refl
    by (suc (suc (suc (suc i)))) h = absurd (omega arith)

-- Lists that are written place by place.
use Rattle.whole.proofs.Laws.{◌≡◌, refl, ap, List, [], ◌∷◌, ℕ, zero, suc, arith, length, drop, get_or}

-- a list of n elements, place by place: what is written into it is then seen by computing (`rw (known ..)`)
abbrev pub places : {A : Type 0} → A → ℕ → List A → List A
places z zero l = []
places z (suc n) l = get_or l 0 z ∷ places z n (drop 1 l)

pub known : {A : Type 0} (z : A) (n : ℕ) (l : List A) → length l ≡ n → l ≡ places z n l
known z zero [] e = refl
known z zero (x ∷ l) e = absurd (omega arith)
known z (suc n) [] e = absurd (omega arith)
known z (suc n) (x ∷ l) e = ap (λ (r : List _). x ∷ r) (known z n l (omega arith))

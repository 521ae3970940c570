-- The first number that passes a test: what every search of this library looks for.
use Rattle.std.specs.Prelude.{Bool, true, false, not, cond, ℕ, zero, suc}
use Rattle.std.proofs.Math.Option.{Option, none, some}

-- among the k numbers from i on
unfoldable pub first : (ℕ → Bool) → ℕ → ℕ → Option ℕ
first t zero i = none
first t (suc k) i = cond (t i) (some i) (first t k (suc i))

-- whether there is one
abbrev pub found? : Option ℕ → Bool
found? none = false
found? (some i) = true

-- whether some number below n passes, and whether every one does: a search for one that doesn't finds none
abbrev pub some_below? : (ℕ → Bool) → ℕ → Bool
some_below? t n = found? (first t n 0)

abbrev pub every_below? : (ℕ → Bool) → ℕ → Bool
every_below? t n = not (some_below? (λ a. not (t a)) n)

-- "0 passes, else the number decides": how every judgement of document 01 goes on to the next. Refusals are numbered from 1 on, and where nothing is
-- refused the number is 0.
use Rattle.std.specs.Prelude.{ℕ, zero, suc}

-- what comes next, or what a refusal makes of its number
unfoldable pub unless_refused : {A : Type 0} → ℕ → (ℕ → A) → A → A
unless_refused zero refuse next = next
unless_refused (suc n) refuse next = refuse (suc n)

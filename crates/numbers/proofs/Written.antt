-- "0 passes, else the number decides", of numbers that are written: where the answer is 0, nothing was refused and the new ones stand there.
use Rattle.whole.proofs.Laws.{◌≡◌, refl, sym, ap, ◌∙◌, List, ℕ, zero, suc, arith, ℤ, unless_refused, decided}
use Rattle.refusals.specs.Types.{Refusal}
use Rattle.refusals.specs.Numbers.{number_of}
use Rattle.refusals.proofs.Numbers.{numbered}
use Rattle.numbers.specs.Numbers.{wrote}

pub written_0 : (n : ℕ) (old new : List ℤ) → (unless_refused n (λ k. wrote k old) (wrote 0 new)).number ≡ 0 → (n ≡ 0) × ((unless_refused n (λ k. wrote k old) (wrote 0 new)).numbers ≡ new)
unfolding unless_refused
written_0 zero old new e = (refl, refl)
written_0 (suc n) old new e = absurd (omega arith)

-- a refusal's number, which is never 0, decides
pub refused_by : {A : Type 0} {n : ℕ} (r : Refusal) (refuse : ℕ → A) (next : A) → n ≡ number_of r → unless_refused (number_of r) refuse next ≡ refuse n
refused_by r refuse next e = decided refuse next (λ z. omega (arith, numbered r)) ∙ ap refuse (sym e)

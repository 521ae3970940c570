-- The two laws of `unless_refused`, for the two branches of a test `n == 0`. A caller may write `_` for `refuse` and `next` where its goal shows them.
use Rattle.whole.proofs.Base.{◌≡◌, refl, ℕ, zero, suc}
use Rattle.whole.specs.Refusal.{unless_refused}

pub passed : {A : Type 0} {n : ℕ} (refuse : ℕ → A) (next : A) → n ≡ 0 → unless_refused n refuse next ≡ next
unfolding unless_refused
passed refuse next e = rw e

pub decided : {A : Type 0} {n : ℕ} (refuse : ℕ → A) (next : A) → (n ≡ 0 → ⊥) → unless_refused n refuse next ≡ refuse n
unfolding unless_refused
decided {n = zero} refuse next f = absurd (f refl)
decided {n = suc n} refuse next f = refl

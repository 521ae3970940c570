-- Among the numbers below n, for n from 1 on, there is a greatest one in any order that compares every two and passes on (`greatest`).
-- The greatest of the numbers below k is compared with k itself: the one that lies beyond the other is the greatest of the numbers below k + 1.
use Rattle.whole.proofs.Laws.{subst, ◌⊎◌, inl, inr, ℕ, zero, suc, ◌≤◌, ◌<◌, arith, ℕ_discrete}

pub record Greatest (R : ℕ → ℕ → Type 0) (n : ℕ) : Type 0 where
  pub top : ℕ
  pub below : top < n
  pub beyond : (a : ℕ) → a < n → R top a

-- the last number k, or one before it
last_or_before : {k : ℕ} {P : ℕ → Type 0} → P k → ((a : ℕ) → a < k → P a) → (a : ℕ) → a < suc k → P a
last_or_before {k} {P} p f a h = elim (ℕ_discrete k a) [ yes e ↦ subst P e p | no e ↦ f a (omega arith) ]

-- R a b: a lies at b, or beyond it. It compares every two numbers, and passes on over a number that is below n.
module _ (R : ℕ → ℕ → Type 0) (n : ℕ) (total : (a b : ℕ) → R a b ⊎ R b a) (passes_on : (a b c : ℕ) → b < n → R a b → R b c → R a c) where
  itself : (a : ℕ) → R a a
  itself a = elim (total a a) [ inl r ↦ r | inr r ↦ r ]

  one_more : (k : ℕ) → suc k ≤ n → Greatest R k → Greatest R (suc k)
  one_more k h g = elim (total g.top k) [
    | inl r ↦ record { top = g.top; below = omega (arith, g.below); beyond = last_or_before r g.beyond }
    | inr r ↦ record { top = k; below = omega arith; beyond = last_or_before (itself k) (λ a l. passes_on k g.top a (omega (arith, g.below)) r (g.beyond a l)) }
  ]

  greatest_of : (k : ℕ) → 1 ≤ k → k ≤ n → Greatest R k
  greatest_of zero l h = absurd (omega arith)
  greatest_of (suc zero) l h = record { top = 0; below = omega arith; beyond = last_or_before (itself 0) (λ a l. absurd (omega arith)) }
  greatest_of (suc (suc k)) l h = one_more (suc k) h (greatest_of (suc k) (omega arith) (omega arith))

  pub greatest : 1 ≤ n → Greatest R n
  greatest h = greatest_of n h (omega arith)

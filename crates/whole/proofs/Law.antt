-- Identities in one line. `law n (λ a b ... left ≗ right) tt` proves that left = right for all values of the n variables:
--
--   square : (a b : ℤ) → (a +ℤ b) *ℤ (a -ℤ b) ≡ a *ℤ a -ℤ b *ℤ b
--   square = law 2 (λ a b. (a ⊕ b) ⊗ (a ⊖ b) ≗ a ⊗ a ⊖ b ⊗ b) tt
--
-- A law of up to twelve variables and degree 6 takes under a tenth of a second. What others name: `law`, `#`, `≗`; `Ident` and `by_ring` for an identity whose type
-- is the expressions themselves; `left_over` to see why one is refused. proofs/Worked.antt has an example of each. `Fn`, `inst`, `All` and `all` serve
-- proofs/Claim.antt too. Private: `says`.
use Rattle.whole.proofs.Base.{◌≡◌, Bool, true, false, List, [], ◌∷◌, ◌++◌, ℕ, zero, suc, T, ℤ, pos}
use Rattle.whole.proofs.Polynomial.{E, var, con, ◌⊖◌, eval, H, const_h, plus_x, norm, is_z, same, ring}

-- ---- what is written: numbers, and equations between expressions

-- the number n
abbrev pub # : ℕ → E
# n = con (pos n)

infix 5 ◌≗◌
pub data Eqn : Type 0 where
  ◌≗◌ : E → E → Eqn

-- ---- variables by name: a statement in n variables is a function of n expressions, and is read at the first n variables of a list

abbrev pub Fn : Type 0 → ℕ → Type 0
Fn R zero = R
Fn R (suc n) = E → Fn R n

abbrev pub inst : (R : Type 0) (n k : ℕ) → Fn R n → R
inst R zero k s = s
inst R (suc n) k f = inst R n (suc k) (f (var k))

-- for all values of n variables
abbrev pub All : (n : ℕ) → (List ℤ → Type 0) → Type 0
All zero P = P []
All (suc n) P = (x : ℤ) → All n (λ ρ. P (x ∷ ρ))

-- ---- the theorem

abbrev pub Says : Eqn → List ℤ → Type 0
Says (a ≗ b) ρ = eval a ρ ≡ eval b ρ

abbrev pub Law : (n : ℕ) → Fn Eqn n → Type 0
Law n f = All n (Says (inst Eqn n 0 f))

abbrev pub test : Eqn → Bool
test (a ≗ b) = same a b

pub all : (n : ℕ) (P : List ℤ → Type 0) → ((ρ : List ℤ) → P ρ) → All n P
all zero P h = h []
all (suc n) P h = λ x. all n (λ ρ. P (x ∷ ρ)) (λ ρ. h (x ∷ ρ))

says : (s : Eqn) → T (test s) → (ρ : List ℤ) → Says s ρ
says (a ≗ b) t ρ = ring a b t ρ

pub law : (n : ℕ) (f : Fn Eqn n) → T (test (inst Eqn n 0 f)) → Law n f
law n f t = all n (Says (inst Eqn n 0 f)) (says (inst Eqn n 0 f) t)

-- the statement written once: its type is the reflected identity, and `.at` reads it in ℤ
pub record Ident (n : ℕ) (f : Fn Eqn n) : Type 0 where
  pub at : Law n f

pub by_ring : {n : ℕ} {f : Fn Eqn n} → T (test (inst Eqn n 0 f)) → Ident n f
by_ring {n} {f} t = record { at = law n f t }

-- ---- to see why an identity is refused: state `left_over n (λ ..) ≡ []`, prove it by `refl`, and read in the error what is left of the two sides

-- a coefficient, and the exponents of the variables in order
pub data Term : Type 0 where
  term : ℤ → List ℕ → Term

abbrev pub onto : List ℕ → List ℕ → List ℕ
onto [] bs = bs
onto (a ∷ rest) bs = onto rest (a ∷ bs)

abbrev pub terms : H → ℕ → List ℕ → List Term
terms (const_h z) e es = elim (is_z z) [ true ↦ [] | false ↦ term z (onto (e ∷ es) []) ∷ [] ]
terms (plus_x p q) e es = terms p 0 (e ∷ es) ++ terms q (suc e) es

abbrev pub left_e : Eqn → List Term
left_e (a ≗ b) = terms (norm (a ⊖ b)) 0 []

abbrev pub left_over : (n : ℕ) → Fn Eqn n → List Term
left_over n f = left_e (inst Eqn n 0 f)

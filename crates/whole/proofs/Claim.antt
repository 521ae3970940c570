-- Claims in one line. `claim n (λ a b ... fact ⇒ fact ⇒ goal from what) tt` proves that the facts entail the goal for all values of the n variables:
--
--   halves : (a b : ℤ) → (pos 2 *ℤ a) <ℤ (pos 2 *ℤ b +ℤ pos 1) → a ≤ℤ b
--   halves = claim 2 (λ a b. # 2 ⊗ a ≺ # 2 ⊗ b ⊕ # 1 ⇒ a ≦ b from linear) tt
--
-- `from linear` searches among the facts and the goal's negation, `from quadratic` among their products of two as well (for up to six facts), and
-- `from linear & h 1 ⊠ h 2 & ..` among the products that are named, which is quicker. `by c` takes the certificate c and searches nothing. In both `h 0` is the goal's
-- negation, and `h 1`, `h 2`, .. are the facts in order. proofs/Worked.antt has an example of each form.
-- What others name: `claim`, ⇒, `from`, `by`; `Fact` and `fact` for a claim whose type is the expressions themselves; `found` to see what the search found.
use Rattle.whole.proofs.Base.{Bool, List, [], ◌∷◌, ℕ, T, ℤ}
use Rattle.whole.proofs.Law.{Fn, inst, All, all}
use Rattle.whole.proofs.Certificate.{Atom, ◌≦◌, ◌≺◌, ◌≈◌, never, Cert, Holds, AllH, snoc, snoc_ok, proves, proves_ok}
use Rattle.whole.proofs.Search.{Hints, find, finds, finds_ok}

-- ---- what is written

infixr 3 ◌⇒◌
infix 4 ◌by◌ ◌from◌
pub data Seq : Type 0 where
  ◌⇒◌ : Atom → Seq → Seq
  ◌by◌ : Atom → Cert → Seq
  ◌from◌ : Atom → Hints → Seq

-- ---- the test, what is meant, and the theorem

abbrev pub valid : List Atom → Seq → Bool
valid hs (a ⇒ s) = valid (snoc hs a) s
valid hs (g by c) = proves hs g c
valid hs (g from hn) = finds hs g hn

abbrev pub Means : Seq → List ℤ → Type 0
Means (a ⇒ s) ρ = Holds a ρ → Means s ρ
Means (g by c) ρ = Holds g ρ
Means (g from hn) ρ = Holds g ρ

valid_ok : (hs : List Atom) (s : Seq) → T (valid hs s) → (ρ : List ℤ) → AllH hs ρ → Means s ρ
valid_ok hs (a ⇒ s) t ρ k = λ x. valid_ok (snoc hs a) s t ρ (snoc_ok hs a ρ k x)
valid_ok hs (g by c) t ρ k = proves_ok hs g c t ρ k
valid_ok hs (g from hn) t ρ k = finds_ok hs g hn t ρ k

abbrev pub Claim : (n : ℕ) → Fn Seq n → Type 0
Claim n f = All n (Means (inst Seq n 0 f))

pub claim : (n : ℕ) (f : Fn Seq n) → T (valid [] (inst Seq n 0 f)) → Claim n f
unfolding AllH
claim n f t = all n (Means (inst Seq n 0 f)) (λ ρ. valid_ok [] (inst Seq n 0 f) t ρ tt)

-- the statement written once: its type is the reflected statement, and `.at` reads it in ℤ
pub record Fact (n : ℕ) (f : Fn Seq n) : Type 0 where
  pub at : Claim n f

pub fact : {n : ℕ} {f : Fn Seq n} → T (valid [] (inst Seq n 0 f)) → Fact n f
fact {n} {f} t = record { at = claim n f t }

-- ---- to see the certificate that was found: state `found n (λ ..) ≡ num 0`, prove it by `refl`, and read the error. It is `num 0` where none was found
abbrev pub found_a : List Atom → Atom → Hints → Cert
found_a hs (a ≦ b) hn = find ((b ≺ a) ∷ hs) hn
found_a hs (a ≺ b) hn = find ((b ≦ a) ∷ hs) hn
found_a hs (a ≈ b) hn = find ((b ≺ a) ∷ hs) hn
found_a hs never hn = find (never ∷ hs) hn

abbrev pub found_s : List Atom → Seq → Cert
found_s hs (a ⇒ s) = found_s (snoc hs a) s
found_s hs (g by c) = c
found_s hs (g from hn) = found_a hs g hn

abbrev pub found : (n : ℕ) → Fn Seq n → Cert
found n f = found_s [] (inst Seq n 0 f)

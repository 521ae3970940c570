-- Worked identities and claims: read this file to learn how the proofs of this library state their algebra.
--
-- Two provers stand in this crate, and each takes one line. `law` proves an identity, and `claim` that some facts entail another. A line has two halves:
--   the statement, in plain ℤ:                 (a b : ℤ) → (a +ℤ b) *ℤ .. ≡ ..
--   the same, for the prover to read:          law 2 (λ a b. (a ⊕ b) ⊗ .. ≗ ..) tt
-- The prover's half has a circled sign for each operation: ⊕ ⊖ ⊗, ⊝ a for −a, # 3 for the number 3; ≗ for an identity; in claims ≦, ≺, ≈ for ≤, <, =, and
-- `never` for a contradiction. The 2 counts the variables. `tt` stands for the test, which has to compute to true. The check compares the two halves, so they can't
-- differ. The signs come by one `use` line, below; from another crate it is
-- `use Rattle.whole.proofs.Laws.{..}`. Nothing here is used by other files, and all names are private: it is here to be read, and to be checked.
use Rattle.whole.proofs.Base.{◌≡◌, refl, [], ◌∷◌, ℕ, ◌+◌, ◌*◌, ◌≤◌, ℤ, pos, neg_ℤ, ◌+ℤ◌, ◌-ℤ◌, ◌*ℤ◌, ◌≤ℤ◌, ◌<ℤ◌}
use Rattle.whole.specs.Worked.{determinant, det}
use Rattle.whole.proofs.Laws.{E, ◌⊕◌, ◌⊖◌, ◌⊗◌, ⊝◌, #, ◌≗◌, law, Ident, by_ring, left_over, term, ◌≦◌, ◌≺◌, ◌≈◌, never, h, num, sq, dec, ◌⊞◌, ◌⊠◌, ◌⊡◌, linear, quadratic, ◌&◌, ◌⇒◌, ◌by◌, ◌from◌, claim, Fact, fact, found, ps_mul, tri, less, same, more, up≤, down≤, down≡, nat}

-- ---- identities

square : (a b : ℤ) → (a +ℤ b) *ℤ (a +ℤ b) ≡ a *ℤ a +ℤ pos 2 *ℤ (a *ℤ b) +ℤ b *ℤ b
square = law 2 (λ a b. (a ⊕ b) ⊗ (a ⊕ b) ≗ a ⊗ a ⊕ # 2 ⊗ (a ⊗ b) ⊕ b ⊗ b) tt

-- A definition that stands in a statement is written for expressions too. Best it is written once: specs/Worked.antt has the determinant for both.
abbrev det_e : E → E → E → E → E
det_e = determinant E ◌⊖◌ ◌⊗◌

-- det(MN) = det M · det N
det_product : (a b c d e f g i : ℤ) → det (a *ℤ e +ℤ b *ℤ g) (a *ℤ f +ℤ b *ℤ i) (c *ℤ e +ℤ d *ℤ g) (c *ℤ f +ℤ d *ℤ i) ≡ det a b c d *ℤ det e f g i
det_product = law 8 (λ a b c d e f g i. det_e (a ⊗ e ⊕ b ⊗ g) (a ⊗ f ⊕ b ⊗ i) (c ⊗ e ⊕ d ⊗ g) (c ⊗ f ⊕ d ⊗ i) ≗ det_e a b c d ⊗ det_e e f g i) tt

-- A statement that only expressions show, and its reading in ℤ by `.at`: for a long step inside a proof.
det_turned : Ident 4 (λ a b c d. det_e a b c d ⊕ det_e c d a b ≗ # 0)
det_turned = by_ring tt

-- ---- claims: facts ⇒ facts ⇒ goal from what. The search adds up the facts, each as often as it likes (`linear`), and the products that are named to it by `&`;
-- `quadratic` names all products of two facts, and is for up to six of them. In products `h 1`, `h 2`, .. are the facts in order, and `h 0` is the goal's negation.

between : (a b c : ℤ) → a <ℤ b → b ≤ℤ c → a <ℤ c
between = claim 3 (λ a b c. a ≺ b ⇒ b ≦ c ⇒ a ≺ c from linear) tt

-- whole numbers, not fractions: 0 < x is taken for 1 ≤ x
halves : (a b : ℤ) → (pos 2 *ℤ a) <ℤ (pos 2 *ℤ b +ℤ pos 1) → a ≤ℤ b
halves = claim 2 (λ a b. # 2 ⊗ a ≺ # 2 ⊗ b ⊕ # 1 ⇒ a ≦ b from linear) tt

-- a positive factor cancelled
cancelled : (a b c : ℤ) → pos 0 <ℤ a → (a *ℤ b) ≤ℤ (a *ℤ c) → b ≤ℤ c
cancelled = claim 3 (λ a b c. # 0 ≺ a ⇒ a ⊗ b ≦ a ⊗ c ⇒ b ≦ c from quadratic) tt

-- a bound on a product: |a|, |b| ≤ 1000 and then ab ≤ 1,000,000
bounded : (a b : ℤ) → neg_ℤ (pos 1000) ≤ℤ a → a ≤ℤ pos 1000 → neg_ℤ (pos 1000) ≤ℤ b → b ≤ℤ pos 1000 → (a *ℤ b) ≤ℤ pos 1000000
bounded = claim 2 (λ a b. ⊝ # 1000 ≦ a ⇒ a ≦ # 1000 ⇒ ⊝ # 1000 ≦ b ⇒ b ≦ # 1000 ⇒ a ⊗ b ≦ # 1000000 from linear & h 1 ⊠ h 4 & h 2 ⊠ h 3) tt

-- a sum of squares: name the square
squares : (a b : ℤ) → (pos 2 *ℤ (a *ℤ b)) ≤ℤ (a *ℤ a +ℤ b *ℤ b)
squares = claim 2 (λ a b. # 2 ⊗ (a ⊗ b) ≦ a ⊗ a ⊕ b ⊗ b from linear & sq (a ⊖ b)) tt

-- equations among the facts: the search takes them any number of times, and multiplies them by an expression where that is named, `u ⊡ h 1`. A matrix of determinant 1
-- is undone by its pseudoinverse:
undone : (a b c d u v x y : ℤ) → det a b c d ≡ pos 1 → x ≡ a *ℤ u +ℤ b *ℤ v → y ≡ c *ℤ u +ℤ d *ℤ v → u ≡ d *ℤ x -ℤ b *ℤ y
undone = claim 8 (λ a b c d u v x y. det_e a b c d ≈ # 1 ⇒ x ≈ a ⊗ u ⊕ b ⊗ v ⇒ y ≈ c ⊗ u ⊕ d ⊗ v ⇒ u ≈ d ⊗ x ⊖ b ⊗ y
    from linear & u ⊡ h 1 & d ⊡ h 2 & b ⊡ h 3) tt

-- facts that can't all hold
clash : (a : ℤ) → a <ℤ pos 0 → pos 0 <ℤ a → ⊥
clash = claim 1 (λ a. a ≺ # 0 ⇒ # 0 ≺ a ⇒ never from linear) tt

-- Where the sign of a number decides, split first (`tri`), and claim each case.
square_above : (a : ℤ) → (a ≡ pos 0 → ⊥) → pos 0 <ℤ (a *ℤ a)
square_above a f = elim (tri a (pos 0)) [ less p ↦ claim 1 (λ a. a ≺ # 0 ⇒ # 0 ≺ a ⊗ a from quadratic) tt a p | same p ↦ absurd (f p) | more p ↦ ps_mul p p ]

-- ---- certificates: `by` and a sum of products that is a contradiction. The test multiplies it out. For a claim where the search takes long.

-- 0 < c − b negated is 0 ≤ b − c, which is h 0. a·(b − c), of h 1 and h 0, and a·c − a·b, of h 2, add up to 0, and should be above 0
cancelled_by : (a b c : ℤ) → pos 0 <ℤ a → (a *ℤ b) <ℤ (a *ℤ c) → b <ℤ c
cancelled_by = claim 3 (λ a b c. # 0 ≺ a ⇒ a ⊗ b ≺ a ⊗ c ⇒ b ≺ c by h 1 ⊠ h 0 ⊞ h 2) tt

-- `dec`: 0 < x as 0 ≤ x − 1. `num 2`: twice
halves_by : (a b : ℤ) → (pos 2 *ℤ a) <ℤ (pos 2 *ℤ b +ℤ pos 1) → a ≤ℤ b
halves_by = claim 2 (λ a b. # 2 ⊗ a ≺ # 2 ⊗ b ⊕ # 1 ⇒ a ≦ b by num 2 ⊠ dec (h 0) ⊞ h 1) tt

-- as `Ident` for a law, `Fact` for a claim
one : Fact 2 (λ a b. # 0 ≺ a ⇒ # 0 ≺ b ⇒ a ⊗ b ≈ # 1 ⇒ a ≈ # 1 from quadratic)
one = fact tt

-- ---- natural numbers: up into ℤ by `pos`, and down again

nat_square : (a b : ℕ) → (a + b) * (a + b) ≡ a * a + 2 * (a * b) + b * b
nat_square a b = down≡ (square (pos a) (pos b))

nat_times : (a b c : ℕ) → a ≤ b → a * c ≤ b * c
nat_times a b c p = down≤ (claim 3 (λ a b c. a ≦ b ⇒ # 0 ≦ c ⇒ a ⊗ c ≦ b ⊗ c from quadratic) tt (pos a) (pos b) (pos c) (up≤ p) (nat c))

-- ---- when a prover refuses, its error says only that `tt` is no proof of ⊥. Two functions show more: state what they answer, and the check prints it.

-- of an identity, what is left over of its two sides: here 2·a·b, by the exponents of the variables. Of a true identity it is []
left : left_over 2 (λ a b. (a ⊕ b) ⊗ (a ⊕ b) ≗ a ⊗ a ⊕ b ⊗ b) ≡ term (pos 2) (1 ∷ 1 ∷ []) ∷ []
left = refl

-- of a claim, the certificate that the search found, or `num 0` where it found none: then name a product, add a fact, or look whether the claim is true
certificate : found 3 (λ a b c. a ≺ b ⇒ b ≦ c ⇒ a ≺ c from linear) ≡ num 1 ⊠ h 2 ⊞ (num 1 ⊠ dec (h 1) ⊞ (num 1 ⊠ h 0 ⊞ num 0))
certificate = refl

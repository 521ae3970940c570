-- "In the closed interval" by the signs of two determinants, for the cover test of admission (crates/cover): of the product of two numbers only the sign is asked, and that
-- follows from their signs. `agree`: two tests agree where each follows from the other.
use Rattle.whole.proofs.Laws.{◌≡◌, refl, Bool, true, false, List, T, ℤ, pos, ◌+ℤ◌, ◌*ℤ◌, le_z, ◌≤ℤ◌, ◌<ℤ◌, le_z_yes, at, ◌⊕◌, ◌⊖◌, ◌⊗◌, #, ◌≗◌, law, ◌≦◌, ◌≺◌, ◌≈◌, linear, quadratic, ◌⇒◌, ◌from◌, claim}
use Rattle.plane.proofs.Laws.{Pair, det, left, right}
use Rattle.inclusion.specs.Inclusion.{closed?}

-- ---- two tests agree where each order follows from the other

pub agree : (x y : Bool) → (T x → T y) → (T y → T x) → x ≡ y
agree true true f g = refl
agree true false f g = absurd (f tt)
agree false true f g = absurd (g tt)
agree false false f g = refl

tests_agree : {a b c d : ℤ} → (a ≤ℤ b → c ≤ℤ d) → (c ≤ℤ d → a ≤ℤ b) → le_z a b ≡ le_z c d
tests_agree {a} {b} {c} {d} f g = agree (le_z a b) (le_z c d) (λ t. (f (le_z_yes t)).le) (λ t. (g (le_z_yes t)).le)

-- ---- whether p·q is 0 or below

pub below_times : (p q : ℤ) → p <ℤ pos 0 → le_z (pos 0) q ≡ le_z (p *ℤ q) (pos 0)
below_times p q h = tests_agree
    (claim 2 (λ p q. p ≺ # 0 ⇒ # 0 ≦ q ⇒ p ⊗ q ≦ # 0 from quadratic) tt p q h)
    (claim 2 (λ p q. p ≺ # 0 ⇒ p ⊗ q ≦ # 0 ⇒ # 0 ≦ q from quadratic) tt p q h)

pub above_times : (p q : ℤ) → pos 0 <ℤ p → le_z q (pos 0) ≡ le_z (p *ℤ q) (pos 0)
above_times p q h = tests_agree
    (claim 2 (λ p q. # 0 ≺ p ⇒ q ≦ # 0 ⇒ p ⊗ q ≦ # 0 from quadratic) tt p q h)
    (claim 2 (λ p q. # 0 ≺ p ⇒ p ⊗ q ≦ # 0 ⇒ q ≦ # 0 from quadratic) tt p q h)

-- ---- whether a point is in a closed interval

-- a number is 0 or above exactly if its negation is 0 or below
turned : (a b : ℤ) → a +ℤ b ≡ pos 0 → le_z (pos 0) a ≡ le_z b (pos 0)
turned a b e = tests_agree
    (claim 2 (λ a b. a ⊕ b ≈ # 0 ⇒ # 0 ≦ a ⇒ b ≦ # 0 from linear) tt a b e)
    (claim 2 (λ a b. a ⊕ b ≈ # 0 ⇒ b ≦ # 0 ⇒ # 0 ≦ a from linear) tt a b e)

-- z is in the closed interval exactly if it doesn't lie on one side of both ends. The product turns its sign, since det does where its points change places.
pub closed_from : (w : List ℤ) (z : Pair) → closed? w z ≡ le_z (det z (left w) *ℤ det z (right w)) (pos 0)
unfolding closed?
closed_from w z = turned (det (left w) z *ℤ det z (right w)) _
    (law 6 (λ a b c d e f. (a ⊗ f ⊖ b ⊗ e) ⊗ (e ⊗ d ⊖ f ⊗ c) ⊕ (e ⊗ b ⊖ f ⊗ a) ⊗ (e ⊗ d ⊖ f ⊗ c) ≗ # 0) tt (at w 0) (at w 1) (at w 2) (at w 3) z.z0 z.z1)

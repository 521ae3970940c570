-- The four images of interval ends are two products of three matrices each: with the ends of v as rows, and those of w as columns, each entry of v·R·w is what the four
-- coefficients R make of an end of v and an end of w. So, of a state and of intervals in their ranges, the images lie within 40,000,000,000,000.
use Rattle.whole.proofs.Laws.{◌≡◌, sym, subst, List, [], ◌∷◌, ℤ, ◌+ℤ◌, ◌*ℤ◌, at, Within, within_le, ◌⊕◌, ◌⊗◌, ◌≗◌, law}
use Rattle.plane.proofs.Laws.{Pair, left, right, multiply_of, multiply_within, pair_equal, FactorsFit}
use Rattle.products.proofs.Laws.{factors_fit}
use Rattle.bilinear.proofs.Laws.{Form, form, on_two, apply_two, turned_over, WithinForm, turned_within}
use Rattle.giving.specs.MayGive.{images_of, columns_of_form}

-- v·R·w, and the two of a state
abbrev pub ends_of : List ℤ → List ℤ → List ℤ → List ℤ
ends_of v r w = multiply_of (multiply_of v r) (turned_over w)

abbrev pub images_form : Form → List ℤ → List ℤ → Form
images_form m v w = form (ends_of v m.numerator w) (ends_of v m.denominator w)

-- an end (a, b) of v, and an end (x, y) of w
entry : (a b : ℤ) (r : List ℤ) (x y : ℤ) →
    (a *ℤ at r 0 +ℤ b *ℤ at r 2) *ℤ x +ℤ (a *ℤ at r 1 +ℤ b *ℤ at r 3) *ℤ y ≡ on_two r (record { z0 = a; z1 = b }) (record { z0 = x; z1 = y })
unfolding on_two
entry a b r x y = law 8 (λ a b c d e f x y.
    (a ⊗ c ⊕ b ⊗ e) ⊗ x ⊕ (a ⊗ d ⊕ b ⊗ f) ⊗ y ≗ c ⊗ (a ⊗ x) ⊕ d ⊗ (a ⊗ y) ⊕ e ⊗ (b ⊗ x) ⊕ f ⊗ (b ⊗ y)) tt
    a b (at r 0) (at r 1) (at r 2) (at r 3) x y

pub images_form_lem : (m : Form) (v w : List ℤ) → columns_of_form (images_form m v w) ≡ images_of m v w
unfolding images_of apply_two multiply_of
images_form_lem m v w = λ i.
    pair (left v) (left w) i ∷ pair (left v) (right w) i ∷ pair (right v) (left w) i ∷ pair (right v) (right w) i ∷ []
  where
    pair : (x y : Pair) → record {
      z0 = (x.z0 *ℤ at m.numerator 0 +ℤ x.z1 *ℤ at m.numerator 2) *ℤ y.z0 +ℤ (x.z0 *ℤ at m.numerator 1 +ℤ x.z1 *ℤ at m.numerator 3) *ℤ y.z1;
      z1 = (x.z0 *ℤ at m.denominator 0 +ℤ x.z1 *ℤ at m.denominator 2) *ℤ y.z0 +ℤ (x.z0 *ℤ at m.denominator 1 +ℤ x.z1 *ℤ at m.denominator 3) *ℤ y.z1;
    } ≡ apply_two m x y
    pair x y = pair_equal (entry x.z0 x.z1 m.numerator y.z0 y.z1) (entry x.z0 x.z1 m.denominator y.z0 y.z1)

-- ---- ranges

-- what the second product asks, of the answers to the first and to turning over
pub second_fits : {v r w n t : List ℤ} → Within 100 v → Within 1000000000 r → Within 100 w → n ≡ multiply_of v r → t ≡ turned_over w → FactorsFit n t
second_fits p q k e f = factors_fit (subst (Within 200000000000) (sym e) (within_le (multiply_within p q) tt)) (subst (Within 100) (sym f) (turned_within k)) tt

pub ends_within : {v r w : List ℤ} → Within 100 v → Within 1000000000 r → Within 100 w → Within 40000000000000 (ends_of v r w)
ends_within p q k = within_le (multiply_within (multiply_within p q) (turned_within k)) tt

pub images_within : {m : Form} {v w : List ℤ} → WithinForm 1000000000 m → Within 100 v → Within 100 w → WithinForm 40000000000000 (images_form m v w)
images_within k p q = record { over = ends_within p k.over q; under = ends_within p k.under q }

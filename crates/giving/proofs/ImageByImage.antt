-- The test as the code asks it, image by image: what the words hold, and how the answers for single images make the answer for all four.
use Rattle.whole.proofs.Laws.{◌≡◌, refl, sym, ◌∙◌, ap, Bool, true, false, false≢true, not, ◌&&◌, ◌||◌, List, ℕ, suc, ◌-◌, ◌^◌, arith, eqb, ne_eqb, ℤ, pos, negsuc, nat_abs, le_z, at, Near, back, held, Fits}
use mir.Syntax.{w64}
use mir.Val.{of_z}
use Rattle.plane.proofs.Laws.{Pair, pair_equal}
use Rattle.bilinear.proofs.Laws.{Form}
use Rattle.giving.specs.MayGive.{coefficients, all_coefficients, none_below?, none_above?, one_sided?, columns_of_form}

-- ---- the two coefficients of one image

-- image i, and its coefficients
abbrev pub image : Form → ℕ → Pair
image m i = record { z0 = at m.numerator i; z1 = at m.denominator i }

abbrev pub coefficients_at : List ℤ → Form → ℕ → List ℤ
coefficients_at u m i = coefficients u (image m i)

-- what the code gets of the two numbers of an image
module _ {a b : ℤ} (p : Near 40000000000000 a) (q : Near 40000000000000 b) where
  pub image_gets : (u : List ℤ) {c : List ℤ} → c ≡ coefficients u (record { z0 = held a; z1 = held b }) → c ≡ coefficients u (record { z0 = a; z1 = b })
  image_gets u e = e ∙ ap (coefficients u) (pair_equal (back p tt) (back q tt))

-- ---- "all ≥ 0 or all ≤ 0", of four images

eight : (a b c d e f g h : Bool) → (a && (b && (c && (d && (e && (f && (g && (h && true)))))))) ≡ ((a && (b && true)) && (c && (d && true)) && (e && (f && true)) && (g && (h && true)))
eight false b c d e f g h = refl
eight true false c d e f g h = refl
eight true true false d e f g h = refl
eight true true true false e f g h = refl
eight true true true true false f g h = refl
eight true true true true true false g h = refl
eight true true true true true true false h = refl
eight true true true true true true true false = refl
eight true true true true true true true true = refl

-- where one of four is false on either side
neither : (a b c d e f g h : Bool) → not (a || e) ≡ true → (a && b && c && d || e && f && g && h) ≡ false
neither false b c d false f g h k = refl
neither false b c d true f g h k = absurd (false≢true k)
neither true b c d e f g h k = absurd (false≢true k)

module _ (u : List ℤ) (m : Form) where
  abbrev of : ℕ → List ℤ
  of = coefficients_at u m

  pub by_images : one_sided? (all_coefficients u (columns_of_form m)) ≡
      (none_below? (of 0) && none_below? (of 1) && none_below? (of 2) && none_below? (of 3) || none_above? (of 0) && none_above? (of 1) && none_above? (of 2) && none_above? (of 3))
  unfolding all_coefficients
  by_images = λ i. each (le_z (pos 0)) i || each (λ n. le_z n (pos 0)) i
    where
      each : (t : ℤ → Bool) → let a : ℕ → Bool = λ i. t (at (of i) 0) in let b : ℕ → Bool = λ i. t (at (of i) 1) in
          (a 0 && (b 0 && (a 1 && (b 1 && (a 2 && (b 2 && (a 3 && (b 3 && true)))))))) ≡
          ((a 0 && (b 0 && true)) && (a 1 && (b 1 && true)) && (a 2 && (b 2 && true)) && (a 3 && (b 3 && true)))
      each t = eight (t (at (of 0) 0)) (t (at (of 0) 1)) (t (at (of 1) 0)) (t (at (of 1) 1)) (t (at (of 2) 0)) (t (at (of 2) 1)) (t (at (of 3) 0)) (t (at (of 3) 1))

  -- the first image alone
  pub first_fails : not (none_below? (of 0) || none_above? (of 0)) ≡ true → one_sided? (all_coefficients u (columns_of_form m)) ≡ false
  first_fails e = by_images ∙ neither (none_below? (of 0)) (none_below? (of 1)) (none_below? (of 2)) (none_below? (of 3))
      (none_above? (of 0)) (none_above? (of 1)) (none_above? (of 2)) (none_above? (of 3)) e

-- ---- "no image is (0, 0)"

-- a word that holds z is 0 just where z is
pub word_nought : (z : ℤ) → Fits z → eqb (of_z w64 z) 0 ≡ eqb (nat_abs z) 0
word_nought (pos n) f = refl
word_nought (negsuc n) f = ne_eqb (2 ^ 64 - suc n) 0 (λ e. omega (arith, f)) ∙ sym (ne_eqb (suc n) 0 (λ e. omega arith))

pub one_of_four : (a b c d : Bool) → (((a || b) || c) || d) ≡ (a || (b || (c || (d || false))))
one_of_four true b c d = refl
one_of_four false true c d = refl
one_of_four false false true d = refl
one_of_four false false false true = refl
one_of_four false false false false = refl

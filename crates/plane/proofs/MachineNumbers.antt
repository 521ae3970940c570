-- What the function proofs say of 64-bit words: a word holds the number that was stored in it, if that fits.
use Rattle.whole.proofs.Laws.{◌≡◌, sym, ap, ◌∙◌, Bool, true, false, not, List, [], ◌∷◌, ℕ, ◌+◌, ◌*◌, ◌^◌, arith, T, ltb, ltb→lt, lt→ltb, ℤ, pos, ◌-ℤ◌, ◌*ℤ◌, le_z, lt_z, Near, back, near_back, ok_back, Stands, le_true, le_false, true_lt, false_lt, held, Fits}
use Rattle.plane.specs.Fits.{Products}
use Rattle.plane.specs.Plane.{determinant_of}

pub read : {b : ℕ} {z : ℤ} → Fits z → Near b z → Stands b (held z) z
read fits h = record { is = ok_back fits; near = h }

-- a product of two numbers, where a sum of two such products fits
pub products_half : {m : List ℤ} (p : Products m) → T (ltb (p.a * p.b) (2 ^ 63))
products_half p = lt→ltb (p.a * p.b) (2 ^ 63) (omega (arith, ltb→lt (p.a * p.b + p.a * p.b) (2 ^ 63) p.small))

-- ---- a determinant of two pairs that words hold: what `determinant` asks, and what its answer is then

module _ {a b : ℕ} {x0 x1 y0 y1 : ℤ} (s : T (ltb a (2 ^ 63))) (t : T (ltb b (2 ^ 63))) (h0 : Near a x0) (h1 : Near a x1) (k0 : Near b y0) (k1 : Near b y1) where
  pub determinant_asks : T (ltb (a * b + a * b) (2 ^ 63)) → Products (held x0 ∷ held x1 ∷ held y0 ∷ held y1 ∷ [])
  determinant_asks small = record { a = a; b = b; n0 = near_back h0 s; n1 = near_back h1 s; n2 = near_back k0 t; n3 = near_back k1 t; small = small }

  pub determinant_held : {r : ℤ} → Fits r → r ≡ determinant_of (held x0 ∷ held x1 ∷ held y0 ∷ held y1 ∷ []) → held r ≡ x0 *ℤ y1 -ℤ x1 *ℤ y0
  unfolding determinant_of
  determinant_held fits e = ok_back fits ∙ e ∙ (λ i. back h0 s i *ℤ back k1 t i -ℤ back h1 s i *ℤ back k0 t i)

-- ---- what a test of a determinant's sign says, where the word r holds the number d

turned : (a b : ℤ) (t : Bool) → le_z b a ≡ t → lt_z a b ≡ not t
turned a b true e = false_lt (le_true b a e)
turned a b false e = true_lt (le_false b a e)

module _ {r d : ℤ} (fits : Fits r) (e : r ≡ d) where
  pub above : lt_z (pos 0) d ≡ not (le_z (held r) (pos 0))
  above = turned (pos 0) d (le_z (held r) (pos 0)) (ap (λ (z : ℤ). le_z z (pos 0)) (sym e ∙ sym (ok_back fits)))

  pub below : lt_z d (pos 0) ≡ not (le_z (pos 0) (held r))
  below = turned d (pos 0) (le_z (pos 0) (held r)) (ap (le_z (pos 0)) (sym e ∙ sym (ok_back fits)))

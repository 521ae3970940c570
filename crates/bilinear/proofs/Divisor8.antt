-- The greatest common divisor of eight numbers: it divides each, whatever divides each divides it, it grows with them, and cancelled by it they have none but 1; and how it is found
-- from a number that it divides.
use Rattle.whole.proofs.Laws.{◌≡◌, refl, sym, ◌∙◌, ap₂, subst, [], ◌∷◌, ℕ, ◌*◌, ◌≤◌, ◌<◌, ◌∣◌, arith, length, pos, *ℤ-zero, gcd, gcd4, gcd_by, gcd_divides_left, gcd_divides_right, gcd_greatest, gcd4_divides, gcd4_greatest, gcd4_times, Times4, divided_times}
use native.Mathlib.Nat.{mul-one, eq_of_mul-eq-mul_left, dvd_antisymm, dvd_trans, pos_of_dvd_of_pos, le_of_dvd}
use Rattle.plane.proofs.Laws.{divided_by_one}
use Rattle.cancelling.proofs.Laws.{dvd4_trans}
use Rattle.bilinear.specs.Types.{Form}
use Rattle.bilinear.specs.Form.{form}
use Rattle.bilinear.specs.Lowest.{gcd8, Divides8, divided_form, cancel_form}

pub gcd8_divides : (m : Form) → Divides8 (gcd8 m) m
unfolding gcd8
gcd8_divides m =
    let a = gcd4 m.numerator in
    let b = gcd4 m.denominator in
    record { over = dvd4_trans (gcd_divides_left a b) (gcd4_divides m.numerator); under = dvd4_trans (gcd_divides_right a b) (gcd4_divides m.denominator) }

pub gcd8_greatest : {k : ℕ} {m : Form} → Divides8 k m → k ∣ gcd8 m
unfolding gcd8
gcd8_greatest {k} {m} v = gcd_greatest (gcd4 m.numerator) (gcd4 m.denominator) k (gcd4_greatest v.over) (gcd4_greatest v.under)

-- ---- k times as large

-- of two numbers: those two and two times 0 are four
two_times : (k a b : ℕ) → 0 < k → gcd (k * a) (k * b) ≡ k * gcd a b
unfolding gcd4 gcd gcd_by
two_times k a b p = gcd4_times {n = pos a ∷ pos b ∷ pos 0 ∷ pos 0 ∷ []} {m = pos (k * a) ∷ pos (k * b) ∷ pos 0 ∷ pos 0 ∷ []} p
    (record { t0 = record { times = refl }; t1 = record { times = refl }; t2 = record { times = *ℤ-zero (pos k) }; t3 = record { times = *ℤ-zero (pos k) } })

-- k·n is m
pub record Times8 (k : ℕ) (n m : Form) : Type 0 where
  pub over : Times4 k n.numerator m.numerator
  pub under : Times4 k n.denominator m.denominator

pub gcd8_times : {k : ℕ} {n m : Form} → 0 < k → Times8 k n m → gcd8 m ≡ k * gcd8 n
unfolding gcd8
gcd8_times {k} {n} {m} p t = ap₂ gcd (gcd4_times p t.over) (gcd4_times p t.under) ∙ two_times k (gcd4 n.numerator) (gcd4 n.denominator) p

-- ---- divided

pub divided_times8 : {g : ℕ} {m : Form} → Divides8 g m → Times8 g (divided_form m g) m
divided_times8 v = record { over = divided_times v.over; under = divided_times v.under }

pub cancel_form_times : (m : Form) → Times8 (gcd8 m) (cancel_form m) m
unfolding cancel_form
cancel_form_times m = divided_times8 (gcd8_divides m)

pub cancel_form_lowest : (m : Form) → 0 < gcd8 m → gcd8 (cancel_form m) ≡ 1
cancel_form_lowest m p = eq_of_mul-eq-mul_left (gcd8 m) p (gcd8 (cancel_form m)) 1 (sym (gcd8_times p (cancel_form_times m)) ∙ sym (mul-one (gcd8 m)))

-- ---- from a number that the divisor divides

-- eight numbers that have no common divisor but 1 stay as they are
pub kept8 : (m : Form) → length m.numerator ≡ 4 → length m.denominator ≡ 4 → gcd8 m ≡ 1 → m ≡ cancel_form m
unfolding cancel_form
kept8 m f g e = λ i. form (divided_by_one m.numerator f e i) (divided_by_one m.denominator g e i)

pub of_even8 : (m : Form) → gcd8 m ∣ 2 → Divides8 2 m → 2 ≡ gcd8 m
of_even8 m p v = dvd_antisymm (gcd8_greatest v) p

pub of_odd8 : (m : Form) → gcd8 m ∣ 2 → (Divides8 2 m → ⊥) → gcd8 m ≡ 1
of_odd8 m p odd = one (gcd8 m) (pos_of_dvd_of_pos p (omega arith)) (le_of_dvd (omega arith) p) (λ e. odd (subst (λ (k : ℕ). Divides8 k m) e (gcd8_divides m)))
  where
    one : (g : ℕ) → 0 < g → g ≤ 2 → (g ≡ 2 → ⊥) → g ≡ 1
    one g p q f = omega (arith, f)

-- of any number d: first with the numerator, then with the denominator
pub of_multiple8 : (m : Form) (d : ℕ) → gcd8 m ∣ d → gcd (gcd4 m.denominator) (gcd (gcd4 m.numerator) d) ≡ gcd8 m
unfolding gcd8
of_multiple8 m d p =
    let a = gcd4 m.numerator in
    let b = gcd4 m.denominator in
    let g = gcd b (gcd a d) in
    dvd_antisymm
    (gcd_greatest a b g (dvd_trans g (gcd_divides_right b (gcd a d)) (gcd_divides_left a d)) (gcd_divides_left b (gcd a d)))
    (gcd_greatest b (gcd a d) (gcd a b) (gcd_divides_right a b) (gcd_greatest a d (gcd a b) (gcd_divides_left a b) p))

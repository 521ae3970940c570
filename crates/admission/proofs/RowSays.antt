-- The judgement of one row says what document 01 says: "every number lies in −100..100, det F > 0, det W < 0, the four numbers of F have greatest common divisor
-- 1, so have the two numbers of each end"; and of what fails, the first in the order 6, 7, 8, 9 is answered.
--
-- `row_verdict` is a chain of four tests. Each is first shown to come out true exactly if its sentence holds: the range by the laws of `within?`, the two determinants by
-- the ground's laws on signed tests, lowest terms by the greatest common divisor, which every common divisor divides and which is one itself. `row_only` takes a row's
-- sentence and finds how each test comes out; and since one of the sentences always holds, the answer that is given is its answer (`row_says`). Both together are
-- `row_exactly`.
use Rattle.whole.proofs.Laws.{◌≡◌, refl, sym, subst, Bool, true, false, ◌&&◌, false≢true, List, ◌⊎◌, inl, inr, ◌↔◌, ℕ, ◌∣◌, eqb-true, eq-eqb, eqb, ℤ, pos, nat_abs, at, gcd, gcd4, gcd_divides_left, gcd_divides_right, gcd_greatest, gcd4_divides, gcd4_greatest, <-or-≥, true_lt, false_lt, both_true, true_both, false_by, within?, lowest?, within_says, says_within}
use Rattle.plane.proofs.Laws.{determinant_of}
use native.Mathlib.Nat.{eq-one_of_dvd-one}
use Rattle.admission.specs.Types.{Admission, Admitted, Ok, Err, OutOfRange, NotAbove, NotBelow, NotLowest}
use Rattle.admission.specs.Admission.{lowest_ends?, row_verdict}
use Rattle.admission.specs.Admitted.{InRange, Lowest, RowCase}

-- ---- the range

range_says : (f w : List ℤ) → (within? 100 f && within? 100 w) ≡ true → InRange f w
range_says f w e =
    let p = both_true (within? 100 f) (within? 100 w) e in
    record { numbers_f = within_says 100 f p.0; numbers_w = within_says 100 w p.1 }

says_range : {f w : List ℤ} → InRange f w → (within? 100 f && within? 100 w) ≡ true
says_range h = true_both (says_within h.numbers_f) (says_within h.numbers_w)

-- ---- lowest terms: whatever divides all the numbers divides their greatest common divisor, and that divides them all

-- what divides 1 is 1
only_one : {k g : ℕ} → k ∣ g → g ≡ 1 → k ≡ 1
only_one {k} d e = eq-one_of_dvd-one (subst (λ (g : ℕ). k ∣ g) e d)

end_says : (x y : ℤ) → eqb (gcd (nat_abs x) (nat_abs y)) 1 ≡ true → (k : ℕ) → k ∣ nat_abs x → k ∣ nat_abs y → k ≡ 1
end_says x y e k c d = only_one (gcd_greatest (nat_abs x) (nat_abs y) k c d) (eqb-true (gcd (nat_abs x) (nat_abs y)) 1 e)

says_end : (x y : ℤ) → ((k : ℕ) → k ∣ nat_abs x → k ∣ nat_abs y → k ≡ 1) → eqb (gcd (nat_abs x) (nat_abs y)) 1 ≡ true
says_end x y only =
    let g = gcd (nat_abs x) (nat_abs y) in
    eq-eqb g 1 (only g (gcd_divides_left (nat_abs x) (nat_abs y)) (gcd_divides_right (nat_abs x) (nat_abs y)))

lowest_says : (f w : List ℤ) → (lowest? f && lowest_ends? w) ≡ true → Lowest f w
lowest_says f w e =
    let p = both_true (lowest? f) (lowest_ends? w) e in
    let q = both_true (eqb (gcd (nat_abs (at w 0)) (nat_abs (at w 1))) 1) (eqb (gcd (nat_abs (at w 2)) (nat_abs (at w 3))) 1) p.1 in
    record {
      lowest_f = λ k d. only_one (gcd4_greatest d) (eqb-true (gcd4 f) 1 p.0);
      lowest_left = end_says (at w 0) (at w 1) q.0;
      lowest_right = end_says (at w 2) (at w 3) q.1;
    }

says_lowest : {f w : List ℤ} → Lowest f w → (lowest? f && lowest_ends? w) ≡ true
says_lowest {f} {w} h = true_both
    (eq-eqb (gcd4 f) 1 (h.lowest_f (gcd4 f) (gcd4_divides f)))
    (true_both (says_end (at w 0) (at w 1) h.lowest_left) (says_end (at w 2) (at w 3) h.lowest_right))

-- ---- where a sentence holds, its answer is given, for each test comes out as that needs

pub row_only : (f w : List ℤ) (v : Admission) → RowCase f w v → v ≡ row_verdict f w
unfolding row_verdict determinant_of
row_only f w (Ok u) d = rw (says_range d.in_range, true_lt d.above, true_lt d.interval.below, says_lowest d.lowest)
row_only f w (Err OutOfRange) c = rw (false_by (within? 100 f && within? 100 w) (λ e. c (range_says f w e)))
row_only f w (Err NotAbove) c = rw (says_range c.0, false_lt c.1)
row_only f w (Err NotBelow) c = rw (says_range c.0, true_lt c.1, false_lt c.2)
row_only f w (Err NotLowest) c = rw (says_range c.0, true_lt c.1, true_lt c.2.below, false_by (lowest? f && lowest_ends? w) (λ e. c.3 (lowest_says f w e)))
row_only f w (Err r) c = absurd c

-- ---- and some sentence holds: what a test asks is so, or is not

either : {P : Type 0} (t : Bool) → (t ≡ true → P) → (P → t ≡ true) → P ⊎ (P → ⊥)
either true f g = inl (f refl)
either false f g = inr (λ p. false≢true (g p))

some_case : (f w : List ℤ) → (v : Admission) × RowCase f w v
unfolding determinant_of
some_case f w = elim (either (within? 100 f && within? 100 w) (range_says f w) says_range) [
  | inr n ↦ (Err OutOfRange, n)
  | inl r ↦ elim (<-or-≥ (pos 0) (determinant_of f)) [
    | inr n ↦ (Err NotAbove, (r, n))
    | inl a ↦ elim (<-or-≥ (determinant_of w) (pos 0)) [
      | inr n ↦ (Err NotBelow, (r, a, n))
      | inl b ↦ elim (either (lowest? f && lowest_ends? w) (lowest_says f w) says_lowest) [
        | inr n ↦ (Err NotLowest, (r, a, record { below = b }, n))
        | inl l ↦ (Admitted, record { in_range = r; above = a; interval = record { below = b }; lowest = l })
      ]
    ]
  ]
]

pub row_says : (f w : List ℤ) → RowCase f w (row_verdict f w)
row_says f w = let c = some_case f w in subst (RowCase f w) (row_only f w c.0 c.1) c.1

pub row_exactly : (f w : List ℤ) (v : Admission) → (row_verdict f w ≡ v) ↔ RowCase f w v
row_exactly f w v = (λ e. subst (RowCase f w) e (row_says f w), λ c. sym (row_only f w v c))

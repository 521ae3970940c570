-- The rules for a state over two words. The test of refusal 12 says exactly these rules; a state that keeps them is not all 0, since the greatest common divisor of eight times 0
-- is 0; each opening keeps them, whatever the input system. At most two digits are held.
use Rattle.whole.proofs.Laws.{◌≡◌, refl, true, ◌&&◌, ◌↔◌, ℕ, ◌≤◌, ◌<◌, arith, eqb-true, eq-eqb, List, ℤ, pos, at, gcd, gcd4, gcd_by, both_true, true_both, within?, within_says, says_within}
use Rattle.bilinear.proofs.Laws.{Form, gcd8, lowest_form?, WithinForm, within_form?}
use Rattle.states.proofs.Laws.{held_digit?, held_says, says_held, one_held}
use Rattle.two_states.specs.Types.{TwoState}
use Rattle.two_states.specs.TwoState.{opened_two, opened_sum, opened_difference, opened_product, TwoRules, two_state?, held_two}

-- ---- the test of refusal 12

pub within_form_says : (b : ℕ) (m : Form) → (within_form? b m ≡ true) ↔ WithinForm b m
within_form_says b m = (
  λ e. let p = both_true (within? b m.numerator) (within? b m.denominator) e in record { over = within_says b m.numerator p.0; under = within_says b m.denominator p.1 },
  λ w. true_both (says_within w.over) (says_within w.under),
)

pub two_rules_say : (n : ℕ) (s : TwoState) → (two_state? n s ≡ true) ↔ TwoRules n s
unfolding two_state?
two_rules_say n s = (to, from)
  where
    to : two_state? n s ≡ true → TwoRules n s
    to e =
        let p = both_true (within_form? 1000000000 s.form && lowest_form? s.form && held_digit? n s.x) (held_digit? n s.y) e in
        let q = both_true (within_form? 1000000000 s.form && lowest_form? s.form) (held_digit? n s.x) p.0 in
        let r = both_true (within_form? 1000000000 s.form) (lowest_form? s.form) q.0 in
        record {
          cancelled = eqb-true (gcd8 s.form) 1 r.1;
          in_range = (within_form_says 1000000000 s.form).0 r.0;
          held_x = held_says n s.x q.1;
          held_y = held_says n s.y p.1;
        }

    from : TwoRules n s → two_state? n s ≡ true
    from k =
        true_both (true_both (true_both ((within_form_says 1000000000 s.form).1 k.in_range) (eq-eqb (gcd8 s.form) 1 k.cancelled))
        (says_held n s.x k.held_x)) (says_held n s.y k.held_y)

-- ---- "a state that is all 0" does not keep them

-- four numbers, and eight
four_0 : (u : List ℤ) → ((i : ℕ) → i < 4 → at u i ≡ pos 0) → gcd4 u ≡ 0
unfolding gcd4 gcd gcd_by
four_0 u z = rw (z 0 (omega arith), z 1 (omega arith), z 2 (omega arith), z 3 (omega arith))

eight_0 : (m : Form) → ((i : ℕ) → i < 4 → (at m.numerator i ≡ pos 0) × (at m.denominator i ≡ pos 0)) → gcd8 m ≡ 0
unfolding gcd8 gcd gcd_by
eight_0 m z = rw (four_0 m.numerator (λ i h. (z i h).0), four_0 m.denominator (λ i h. (z i h).1))

pub not_all_0 : {n : ℕ} {s : TwoState} → TwoRules n s → ((i : ℕ) → i < 4 → (at s.form.numerator i ≡ pos 0) × (at s.form.denominator i ≡ pos 0)) → ⊥
not_all_0 {s = s} k z = omega (arith, k.cancelled, eight_0 s.form z)

-- ---- the openings

opened_rules : (m : Form) → gcd8 m ≡ 1 → within_form? 1000000000 m ≡ true → (n : ℕ) → TwoRules n (opened_two m)
opened_rules m e w n = record { cancelled = e; in_range = (within_form_says 1000000000 m).0 w; held_x = tt; held_y = tt }

pub opened_sum_rules : (n : ℕ) → TwoRules n opened_sum
unfolding gcd8 gcd4 gcd gcd_by within?
opened_sum_rules = opened_rules _ refl refl

pub opened_difference_rules : (n : ℕ) → TwoRules n opened_difference
unfolding gcd8 gcd4 gcd gcd_by within?
opened_difference_rules = opened_rules _ refl refl

pub opened_product_rules : (n : ℕ) → TwoRules n opened_product
unfolding gcd8 gcd4 gcd gcd_by within?
opened_product_rules = opened_rules _ refl refl

-- ---- what is held

pub two_held : (s : TwoState) → held_two s ≤ 2
two_held s = omega (arith, one_held s.x, one_held s.y)

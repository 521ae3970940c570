-- Opening: "6, then 11". Each answer is given exactly in its case; and where it opens, the state that is handed out keeps the rules for a state.
use Rattle.whole.proofs.Laws.{◌≡◌, refl, sym, ◌∙◌, ap, subst, Bool, true, false, cond, true≢false, List, ◌↔◌, ℕ, arith, ℤ, pos, lt_z, clash_ℤ, Within, within_le, lt_true, lt_false, within?, within_says, says_within}
use Rattle.plane.proofs.Laws.{determinant_of, cancel_within}
use Rattle.states.proofs.Laws.{StateRules, cancelled_rules}
use Rattle.refusals.proofs.Numbers.{numbered}
use Rattle.opening.specs.Types.{Opening, Opens, OutOfRange, MatrixNotAbove, Ok, Err, Start}
use Rattle.opening.specs.Opening.{opening_number, opening_of, open_of, OpeningCase, start_of}

-- the answer that is given, by the two tests
by_above : (m : List ℤ) (t : Bool) → lt_z (pos 0) (determinant_of m) ≡ t → Within 1000 m → OpeningCase m (cond t Opens (Err MatrixNotAbove))
by_above m true e w = (w, lt_true (pos 0) (determinant_of m) e)
by_above m false e w = (w, lt_false (pos 0) (determinant_of m) e)

by_range : (m : List ℤ) (t : Bool) → within? 1000 m ≡ t → OpeningCase m (cond t (cond (lt_z (pos 0) (determinant_of m)) Opens (Err MatrixNotAbove)) (Err OutOfRange))
by_range m true e = by_above m (lt_z (pos 0) (determinant_of m)) refl (within_says 1000 m e)
by_range m false e = λ w. true≢false (sym (says_within w) ∙ e)

pub opening_says : (m : List ℤ) → OpeningCase m (opening_of m)
opening_says m = by_range m (within? 1000 m) refl

-- it is handed out
handed_out_lem : (m : List ℤ) (v : Opening) → (start_of m v).opening ≡ v
handed_out_lem m (Ok u) = refl
handed_out_lem m (Err r) = refl

handed : (m : List ℤ) → (open_of m).opening ≡ opening_of m
unfolding open_of
handed m = handed_out_lem m (opening_of m)

-- no two of document 01's sentences on opening hold of one matrix
pub one_case : (m : List ℤ) (v w : Opening) → OpeningCase m v → OpeningCase m w → v ≡ w
one_case m (Ok u) (Ok v) p q = refl
one_case m (Ok u) (Err OutOfRange) p q = absurd (q p.0)
one_case m (Ok u) (Err MatrixNotAbove) p q = absurd (clash_ℤ p.1 q.1)
one_case m (Err OutOfRange) (Ok u) p q = absurd (p q.0)
one_case m (Err OutOfRange) (Err OutOfRange) p q = refl
one_case m (Err OutOfRange) (Err MatrixNotAbove) p q = absurd (p q.0)
one_case m (Err MatrixNotAbove) (Ok u) p q = absurd (clash_ℤ q.1 p.1)
one_case m (Err MatrixNotAbove) (Err OutOfRange) p q = absurd (q p.0)
one_case m (Err MatrixNotAbove) (Err MatrixNotAbove) p q = refl
one_case m (Ok u) (Err r) p q = absurd q
one_case m (Err OutOfRange) (Err r) p q = absurd q
one_case m (Err MatrixNotAbove) (Err r) p q = absurd q
one_case m (Err r) w p q = absurd p

-- only "opens" has the number 0
pub opening_0 : (v : Opening) → opening_number v ≡ 0 → v ≡ Opens
opening_0 (Ok u) e = refl
opening_0 (Err r) e = absurd (omega (arith, numbered r, e))

-- each answer is given exactly in its case
pub opens : (m : List ℤ) (v : Opening) → ((open_of m).opening ≡ v) ↔ OpeningCase m v
opens m v = (λ e. subst (OpeningCase m) (sym (handed m) ∙ e) (opening_says m), λ c. handed m ∙ one_case m (opening_of m) v (opening_says m) c)

-- "X is M cancelled, nothing held", and where opening is refused, four 0 and nothing held
pub hands_out : (m : List ℤ) (v : Opening) → (open_of m).opening ≡ v → open_of m ≡ start_of m v
unfolding open_of
hands_out m v e = ap (start_of m) (sym (handed m) ∙ e)

-- and the state that is handed out keeps the rules, whatever the input system
pub opened_rules : (m : List ℤ) → (open_of m).opening ≡ Opens → (n : ℕ) → StateRules n (open_of m).state
opened_rules m e n =
    let c = (opens m Opens).0 e in
    subst (λ (r : Start). StateRules n r.state) (sym (hands_out m Opens e))
    (cancelled_rules n (start_of m Opens).state m refl (record { above = c.1 }) (within_le (cancel_within c.0) tt) tt)

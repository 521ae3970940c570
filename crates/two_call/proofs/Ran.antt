-- What a run over two words leaves: from what it answered (`a`, `out`) and what was written of that (`n`, `new`, `counts`), where the lengths are right.
use Rattle.whole.proofs.Laws.{◌≡◌, ap, ◌∙◌, List, [], ◌∷◌, ℕ, ℤ, length, eq-eqb}
use Rattle.states.proofs.Laws.{end_number}
use Rattle.two_states.proofs.Laws.{TwoState}
use Rattle.binary.proofs.Laws.{TwoAnswer, TwoRan, two_ran, two_run}
use Rattle.digits.proofs.Laws.{StoredSystem, system_of}
use Rattle.two_call.specs.TwoNumbers.{two_from, two_after}
use Rattle.two_call.specs.TwoCall.{after_two, ran_two, two_call_of}

pub ran_two_lem : (old : List ℤ) {r : TwoRan} {a : TwoAnswer} {out counts : List ℕ} {n : ℕ} {new : List ℤ} → two_ran a out ≡ r →
    (n ≡ end_number a.stop) × (new ≡ two_after a.stop a.state old) × (counts ≡ a.x.0 ∷ a.y.0 ∷ a.written.0 ∷ []) → after_two n new out counts ≡ ran_two r old
ran_two_lem old {out = out} p (n, s, c) = (λ i. after_two (n i) (s i) out (c i)) ∙ ap (λ (x : TwoRan). ran_two x old) p

pub right_lengths : {v w a b : StoredSystem} (xs ys : List ℕ) (old : List ℤ) (output counts : List ℕ) {s : TwoState} →
    (length v.columns ≡ 128) × (a ≡ v) → (length w.columns ≡ 128) × (b ≡ w) → length old ≡ 11 → length counts ≡ 3 → s ≡ two_from old →
    ran_two (two_run (system_of a) (system_of b) s xs ys output) old ≡ two_call_of v w xs ys old output counts
unfolding two_call_of
right_lengths {v} {w} xs ys old output counts (e, p) (f, q) eleven three r =
    rw (eq-eqb (length v.columns) 128 e, eq-eqb (length w.columns) 128 f, eq-eqb (length old) 11 eleven, eq-eqb (length counts) 3 three)
    (λ i. ran_two (two_run (system_of (p i)) (system_of (q i)) (r i) xs ys output) old)

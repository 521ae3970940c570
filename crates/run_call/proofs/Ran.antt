-- What a run leaves: from what it answered (`a`, `out`, `list`) and what was written of that (`n`, `new`, `counts`), where the lengths are right.
use Rattle.whole.proofs.Laws.{◌≡◌, ap, ◌∙◌, List, [], ◌∷◌, ℕ, ℤ, length, eq-eqb}
use Rattle.states.proofs.Laws.{State, end_number}
use Rattle.unary.proofs.Laws.{Answer, Ran, ran, run_of}
use Rattle.digits.proofs.Laws.{StoredSystem, system_of}
use Rattle.numbers.proofs.Laws.{state_after}
use Rattle.numbers.specs.Numbers.{state_from}
use Rattle.run_call.specs.RunCall.{after_run, ran_call, run_call_of}

pub ran_call_lem : (old : List ℤ) {r : Ran} {a : Answer} {out list counts : List ℕ} {n : ℕ} {new : List ℤ} → ran a out list ≡ r →
    (n ≡ end_number a.stop) × (new ≡ state_after a.stop a.state old) × (counts ≡ a.taken.0 ∷ a.written.0 ∷ a.listed.0 ∷ []) →
    after_run n new out list counts ≡ ran_call r old
ran_call_lem old {out = out} {list = list} p (n, s, c) = (λ i. after_run (n i) (s i) out list (c i)) ∙ ap (λ (x : Ran). ran_call x old) p

pub right_lengths : {x y a b : StoredSystem} (input : List ℕ) (old : List ℤ) (output divisors counts : List ℕ) {s : State} →
    (length x.columns ≡ 128) × (a ≡ x) → (length y.columns ≡ 128) × (b ≡ y) → length old ≡ 5 → length counts ≡ 3 → s ≡ state_from old →
    ran_call (run_of (system_of a) (system_of b) s input output divisors) old ≡ run_call_of x y input old output divisors counts
unfolding run_call_of
right_lengths {x} {y} input old output divisors counts (e, p) (f, q) five three r =
    rw (eq-eqb (length x.columns) 128 e, eq-eqb (length y.columns) 128 f, eq-eqb (length old) 5 five, eq-eqb (length counts) 3 three)
    (λ i. ran_call (run_of (system_of (p i)) (system_of (q i)) (r i) input output divisors) old)

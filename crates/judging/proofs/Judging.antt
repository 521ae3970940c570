-- "A run judges its input system (3, 6 to 10), its output system, then the state (12), before any step." The test of refusal 12 says exactly the rules for a state;
-- nothing is refused exactly if both systems are admitted and the state keeps the rules; a refusal has one of those numbers.
-- The argument goes through the three judgements in their order: the first number that is not 0 decides.
use Rattle.whole.proofs.Laws.{◌≡◌, refl, sym, ap, ◌∙◌, passed, decided, Bool, true, false, cond, ◌&&◌, ◌⊎◌, inl, inr, ◌↔◌, ℕ, zero, suc, arith, eqb-true, eq-eqb, pos, lt_z, gcd4, unless_refused, lt_true, true_lt, both_true, true_both, within?, lowest?, within_says, says_within}
use Rattle.std.specs.Result.{IsErrAnd}
use Rattle.std.proofs.lemmas.Result.{err_from_is_err_and}
use Rattle.refusals.specs.Types.{Refusal, Result, Err}
use Rattle.plane.proofs.Laws.{determinant_of}
use Rattle.digits.proofs.Laws.{System}
use Rattle.admission.proofs.Laws.{Admitted, refusal_number, admission_of, SystemNumber, number_0, admission_number, admitted_few, admitted_digits}
use Rattle.states.proofs.Laws.{State, StateRules, held_digit?, held_says, says_held}
use Rattle.steps.proofs.Laws.{Setting, Usable, Ready}
use Rattle.judging.specs.Refusal.{state?, refusal_by, refusal_of, RefusalNumber, Accepted}

-- ---- what `?` passes on

pub passed_on : {A : Type 0} {e : Refusal} (r : Result A Refusal) → IsErrAnd r (λ y. y ≡ e) → r ≡ Err e
passed_on r h = let p = err_from_is_err_and r h in p.1 ∙ ap Err p.2

-- ---- the test of refusal 12

-- "the state handed to a run breaks the rules for a state", exactly if the test fails
pub state_says : (n : ℕ) (s : State) → (state? n s ≡ true) ↔ StateRules n s
unfolding state?
state_says n s = (to, from)
  where
    to : state? n s ≡ true → StateRules n s
    to e =
        let p = both_true (within? 1000000000 s.matrix && lt_z (pos 0) (determinant_of s.matrix) && lowest? s.matrix) (held_digit? n s.held) e in
        let q = both_true (within? 1000000000 s.matrix && lt_z (pos 0) (determinant_of s.matrix)) (lowest? s.matrix) p.0 in
        let r = both_true (within? 1000000000 s.matrix) (lt_z (pos 0) (determinant_of s.matrix)) q.0 in
        record {
          cancelled = eqb-true (gcd4 s.matrix) 1 q.1;
          above = lt_true (pos 0) (determinant_of s.matrix) r.1;
          in_range = within_says 1000000000 s.matrix r.0;
          held_digit = held_says n s.held p.1;
        }

    from : StateRules n s → state? n s ≡ true
    from k =
        true_both (true_both (true_both (says_within k.in_range) (true_lt k.above)) (eq-eqb (gcd4 s.matrix) 1 k.cancelled))
        (says_held n s.held k.held_digit)

-- ---- nothing is refused

-- the number for the state
abbrev state_number : Bool → ℕ
state_number t = cond t 0 12

neither : (a b : ℕ) → unless_refused a (λ n. n) b ≡ 0 → (a ≡ 0) × (b ≡ 0)
unfolding unless_refused
neither zero b e = (refl, e)
neither (suc a) b e = absurd (omega arith)

state_0 : (t : Bool) → state_number t ≡ 0 → t ≡ true
state_0 true e = refl
state_0 false e = absurd (omega arith)

-- of the systems alone, and of whatever is told of the state
pub record AcceptedBy (y : Setting) (kept : Bool) : Type 0 where
  pub input : admission_of y.input ≡ Admitted
  pub output : admission_of y.output ≡ Admitted
  pub state : kept ≡ true

pub accepted_by : (y : Setting) (kept : Bool) → (refusal_by y kept ≡ 0) ↔ AcceptedBy y kept
unfolding refusal_by unless_refused
accepted_by y kept = (to, from)
  where
    to : refusal_by y kept ≡ 0 → AcceptedBy y kept
    to e =
        let p = neither (refusal_number (admission_of y.input)) (unless_refused (refusal_number (admission_of y.output)) (λ n. n) (state_number kept)) e in
        let q = neither (refusal_number (admission_of y.output)) (state_number kept) p.1 in
        record { input = number_0 (admission_of y.input) p.0; output = number_0 (admission_of y.output) q.0; state = state_0 kept q.1 }

    from : AcceptedBy y kept → refusal_by y kept ≡ 0
    from a = rw (a.input, a.output, a.state)

pub accepted : (y : Setting) (s : State) → (refusal_of y s ≡ 0) ↔ Accepted y s
unfolding refusal_of
accepted y s = (
  λ e. let a = (accepted_by y (state? y.input.count s)).0 e in record { input = a.input; output = a.output; state = (state_says y.input.count s).0 a.state },
  λ a. (accepted_by y (state? y.input.count s)).1 (record { input = a.input; output = a.output; state = (state_says y.input.count s).1 a.state }),
)

-- so the steps of a run may rely on all of that
pub usable : (s : System) → admission_of s ≡ Admitted → Usable s
usable s e = record { few = admitted_few s e; digits = admitted_digits s e }

pub accepted_ready : (y : Setting) (s : State) → refusal_of y s ≡ 0 → Ready y s
accepted_ready y s e =
    let a = (accepted y s).0 e in
    record { input = usable y.input a.input; output = usable y.output a.output; state = a.state }

-- ---- something is refused

either_number : (a b : ℕ) → (a ≡ 0) ⊎ SystemNumber a → (b ≡ 0) ⊎ RefusalNumber b → let n = unless_refused a (λ n. n) b in (n ≡ 0) ⊎ RefusalNumber n
unfolding unless_refused
either_number zero b p q = q
either_number (suc a) b (inl e) q = absurd (omega arith)
either_number (suc a) b (inr p) q = inr (inl p)

state_number_lem : (t : Bool) → (state_number t ≡ 0) ⊎ RefusalNumber (state_number t)
state_number_lem true = inl refl
state_number_lem false = inr (inr refl)

pub refusal_number_by : (y : Setting) (kept : Bool) → (refusal_by y kept ≡ 0) ⊎ RefusalNumber (refusal_by y kept)
unfolding refusal_by
refusal_number_by y kept =
    either_number (refusal_number (admission_of y.input)) _ (admission_number y.input)
    (either_number (refusal_number (admission_of y.output)) _ (admission_number y.output) (state_number_lem kept))

pub refusal_number_lem : (y : Setting) (s : State) → (refusal_of y s ≡ 0) ⊎ RefusalNumber (refusal_of y s)
unfolding refusal_of
refusal_number_lem y s = refusal_number_by y (state? y.input.count s)

-- ---- one behind the other

pub itself : (n : ℕ) → unless_refused n (λ k. k) 0 ≡ n
unfolding unless_refused
itself zero = refl
itself (suc n) = refl

-- where a system is refused that number decides, and else what is told of the state
either_first : (a b c : ℕ) → unless_refused a (λ n. n) (unless_refused b (λ n. n) c) ≡ unless_refused (unless_refused a (λ n. n) (unless_refused b (λ n. n) 0)) (λ n. n) c
unfolding unless_refused
either_first zero zero c = refl
either_first zero (suc b) c = refl
either_first (suc a) b c = refl

pub by_systems : (y : Setting) (kept : Bool) → refusal_by y kept ≡ unless_refused (refusal_by y true) (λ n. n) (cond kept 0 12)
unfolding refusal_by
by_systems y kept = either_first (refusal_number (admission_of y.input)) (refusal_number (admission_of y.output)) (cond kept 0 12)

-- the number n of the two systems decides where it is not 0, and else the state
pub system_decides : (y : Setting) (kept : Bool) {n : ℕ} → n ≡ refusal_by y true → (n ≡ 0 → ⊥) → n ≡ refusal_by y kept
system_decides y kept e f = e ∙ sym (by_systems y kept ∙ decided _ _ (λ z. f (e ∙ z)))

pub state_decides : (y : Setting) (kept : Bool) {n : ℕ} {t : Bool} → n ≡ refusal_by y true → n ≡ 0 → kept ≡ t → state_number t ≡ refusal_by y kept
state_decides y kept e z k = sym (by_systems y kept ∙ passed _ _ (sym e ∙ z) ∙ ap state_number k)

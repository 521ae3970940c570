-- "the number named by the output still to come": what that means, between any two moments of a session. From the earlier state to the later one these digits were given
-- out; in front of what the later state makes of any number t they name what the earlier state makes of the number that the digits absorbed in between name in front of t.
-- It holds of every two states of which the second is reached from the first by steps (`output_to_come`), and any two moments of a session are such: both in one call
-- (`to_come_within_a_call`), or the second behind the call in which the first stands, in a later one or between two (`to_come_behind_a_call`). For that: a run that is
-- granted more steps goes on from where it stood (`goes_on`), a run that is not refused is its steps, and no call of a session is refused (`session_accepted`).
use Rattle.whole.proofs.Laws.{◌≡◌, refl, sym, ◌∙◌, ap, subst, List, inl, inr, ℕ, zero, suc, ◌-◌, ◌≤◌, eq-zero-or-pos, arith, length, ℤ}
use Rattle.digits.proofs.Laws.{System}
use Rattle.admission.proofs.Laws.{Admitted, Admissible, Digits, admitted_only}
use Rattle.runs.proofs.Laws.{Supply, Deed, nothing, and_then, and_nothing, and_then_lem, spend, Outcome, goes, halts, most_steps, Course, after, stopped, run_by, run, granted, runs, accepted_run}
use Rattle.states.proofs.Laws.{State, Stop, Refused}
use Rattle.steps.proofs.Laws.{Setting, setting, plain, one_word, lawful}
use Rattle.opening.proofs.Laws.{open_of, opened_rules}
use Rattle.judging.proofs.Laws.{refusal_of, accepted}
use Rattle.unary.proofs.Laws.{course_of, accepted_again}
use Rattle.meaning.specs.Session.{Calls, none, called, Session, ToCome, During, Continues}
use Rattle.meaning.specs.Moments.{Onward, here, stepped, Moment}
use Rattle.meaning.proofs.Moments.{Sound, onward_means, opened_sound}
use Rattle.meaning.proofs.Claims.{meant_to_come}
use Rattle.meaning.proofs.Sessions.{onward_sound, one_more, steps_onward, calls_onward, session_admitted, session_moment, call_moment, called_again}

-- ---- steps behind steps

onward_onward : {y : Setting} {o s t : State} {a d : Deed} → Onward y o a s → Onward y s d t → Onward y o (and_then a d) t
onward_onward {y} {o} {s} {a = a} first here = subst (λ (e : Deed). Onward y o e s) (sym (and_nothing a)) first
onward_onward {y} {o} {a = a} first (stepped {done} {d} {u = u} steps line supply e) =
    subst (λ (c : Deed). Onward y o c u) (and_then_lem a done d) (stepped (onward_onward first steps) line supply e)

module _ {y : Setting} (inputs : Digits y.input) (outputs : Digits y.output) where
  stays : (q : Course State Stop) → Continues q q (Onward y)
  stays q = record { more = nothing; did = and_nothing q.did; between = here }

  -- granted n steps in the place of k: by the first step, and then by what follows it
  step_goes_on : (k n : ℕ) (s : State) (r : Supply) → ((t : State) (d : Deed) → (plain y).step s r ≡ goes t d → Continues (run_by (plain y) k t (spend d r)) (run_by (plain y) n t (spend d r)) (Onward y)) →
      (v : Outcome State Stop) → (plain y).step s r ≡ v → Continues (after (run_by (plain y) k) s r v) (after (run_by (plain y) n) s r v) (Onward y)
  step_goes_on k n s r follows (goes t d) e =
      let on = follows t d e in
      record { more = on.more; did = and_then_lem d (run_by (plain y) k t (spend d r)).did on.more ∙ ap (and_then d) on.did; between = on.between }
  step_goes_on k n s r follows (halts w) e = stays (stopped w s)

  goes_on : (k n : ℕ) → k ≤ n → (s : State) (r : Supply) → Sound y s → Continues (run_by (plain y) k s r) (run_by (plain y) n s r) (Onward y)
  unfolding run_by
  goes_on zero n h s r sound = record { more = (run_by (plain y) n s r).did; did = refl; between = steps_onward inputs outputs sound n nothing s r here }
  goes_on (suc k) zero h s r sound = absurd (omega arith)
  goes_on (suc k) (suc n) h s r sound =
      step_goes_on k n s r (λ t d e. goes_on k n (omega arith) t (spend d r) (onward_sound inputs outputs sound (one_more inputs outputs sound here r e))) ((plain y).step s r) refl

  -- a run that is granted any number of steps, and the run
  to_the_end : (k : ℕ) (s : State) (r : Supply) → Sound y s → Continues (run_by (plain y) k s r) (run (plain y) s r) (Onward y)
  unfolding run
  to_the_end k s r sound = elim (eq-zero-or-pos (k - suc (most_steps (plain y) s r))) [
    | inl h ↦ goes_on k (suc (most_steps (plain y) s r)) (omega arith) s r sound
    | inr h ↦ subst (λ (q : Course State Stop). Continues q (run (plain y) s r) (Onward y)) (sym (granted (lawful y) (runs (lawful y) s r) k (omega arith))) (stays (run (plain y) s r))
  ]

-- ---- no call of a session is refused: each state that is handed back untouched keeps the rules

calls_accepted : {a b : System} {o : State} → refusal_of (setting a b) o ≡ 0 → {done : Deed} {s : State} → Calls a b o done s → refusal_of (setting a b) s ≡ 0
unfolding course_of
calls_accepted e none = e
calls_accepted {a} {b} e (called {t = s} calls input output divisors) =
    let y = setting a b in
    let r = one_word input (length output) (length divisors) in
    let before = calls_accepted e calls in
    rw (accepted_run (plain y) Refused (refusal_of y) s r before) (accepted_again y s r before)

pub session_accepted : {a b : System} {m : List ℤ} {done : Deed} {s : State} → Session a b m done s → refusal_of (setting a b) s ≡ 0
session_accepted {a} {b} {m} session = calls_accepted
    ((accepted (setting a b) (open_of m).state).1 (record {
      input = sym (admitted_only a Admitted session.input);
      output = sym (admitted_only b Admitted session.output);
      state = opened_rules m session.opens a.count;
    }))
    session.calls

-- ---- between two moments

-- from any moment on
pub output_to_come : {a b : System} {m : List ℤ} → Admissible a × Admissible b → {done done' : Deed} {s s' : State} →
    Moment (setting a b) m done s → Onward (setting a b) s done' s' → ToCome a b s done' s'
output_to_come {a} {b} {m} admitted {done' = done'} moment later =
    let inputs = admitted.0.digits in
    let outputs = admitted.1.digits in
    let sound = onward_sound inputs outputs (opened_sound (setting a b) m moment.opens) moment.steps in
    meant_to_come done' (onward_means inputs outputs sound later)

goes_as : {p q : Course State Stop} {P Q : State → Deed → State → Type 0} (g : Continues p q P) → (P p.state g.more q.state → Q p.state g.more q.state) → Continues p q Q
goes_as g f = record { more = g.more; did = g.did; between = f g.between }

module _ {a b : System} {m : List ℤ} {done : Deed} {s : State} (session : Session a b m done s) (input : List ℕ) where
  abbrev y : Setting
  y = setting a b

  abbrev inputs : Digits a
  inputs = session.input.digits

  abbrev outputs : Digits b
  outputs = session.output.digits

  sound_at : {d : Deed} {t : State} → Moment y m d t → Sound y t
  sound_at moment = onward_sound inputs outputs (opened_sound y m session.opens) moment.steps

  -- both in one call: after k steps of it, and after n
  pub to_come_within_a_call : (room list k n : ℕ) → k ≤ n → Continues (run_by (plain y) k s (one_word input room list)) (run_by (plain y) n s (one_word input room list)) (ToCome a b)
  to_come_within_a_call room list k n h =
      goes_as (goes_on inputs outputs k n h s (one_word input room list) (sound_at (session_moment session)))
      (output_to_come (session_admitted session) (call_moment session input room list k))

  -- after k steps of a call, and behind that call: after any calls more and then n steps of the next
  pub to_come_behind_a_call : (output divisors : List ℕ) (k : ℕ) {later : Deed} {t : State} → let q = course_of a b s input (length output) (length divisors) in
      Calls a b q.state later t → (more : List ℕ) (room list n : ℕ) →
      Continues (run_by (plain y) k s (one_word input (length output) (length divisors))) q (λ u between v.
      During (ToCome a b u) (and_then between later) (run_by (plain y) n t (one_word more room list)))
  unfolding course_of
  to_come_behind_a_call output divisors k {later} {t} calls more room list n =
      let r = one_word input (length output) (length divisors) in
      let moment = call_moment session input (length output) (length divisors) k in
      let whole = sym (accepted_run (plain y) Refused (refusal_of y) s r (session_accepted session)) in
      let on = subst (λ (q : Course State Stop). Continues (run_by (plain y) k s r) q (Onward y)) whole (to_the_end inputs outputs k s r (sound_at (session_moment session))) in
      goes_as on (λ between.
      let behind = onward_onward between (calls_onward (session_admitted session) (sound_at (session_moment (called_again session input output divisors))) calls) in
      output_to_come (session_admitted session) moment (steps_onward inputs outputs (sound_at moment) n (and_then on.more later) t (one_word more room list) behind))

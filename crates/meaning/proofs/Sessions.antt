-- The theorems of demand 3, for sessions: `session_product`, `session_scale`, `session_named` and `session_numbers` between two calls, `call_product`, `call_scale`,
-- `call_named` and `call_numbers` between two steps of one call. What they say is written out in specs/Session.antt.
-- The argument: each call's state is the next call's, so a session is one list of steps. It opens at a moment, each step of a run makes of a moment the next, and a
-- refused run changes nothing; so every session stands at a moment (`session_moment`), of which the claims are proved (Claims).
-- Last, the bridge to the code: `called_by_contract` makes a session's next call of any answer, output and list that equal those of `run_of`, which is what `run`'s contract
-- says of them.
use Rattle.whole.proofs.Laws.{◌≡◌, refl, sym, ◌∙◌, ap, subst, List, ℕ, zero, suc, arith, length, take, drop, take-append_seam, ℤ}
use Rattle.plane.proofs.Laws.{cancel_of}
use Rattle.digits.proofs.Laws.{System}
use Rattle.admission.proofs.Laws.{Admissible, Digits}
use Rattle.runs.proofs.Laws.{Supply, Deed, nothing, and_then, spend, Outcome, goes, halts, most_steps, Course, after, run_by, run, within, and_nothing, and_then_lem, front_written, either}
use Rattle.states.proofs.Laws.{State, Stop, Refused, opened}
use Rattle.steps.proofs.Laws.{Setting, setting, plain, one_word}
use Rattle.opening.proofs.Laws.{Opens, open_of}
use Rattle.judging.proofs.Laws.{refusal_of}
use Rattle.unary.proofs.Laws.{Ran, course_of, run_of, course_in_range}
use Rattle.std.proofs.lemmas.List.{nil_from_length}
use Rattle.meaning.specs.Session.{Calls, none, called, did_by, Session, ProductHolds, ScaleNamed, NamedHolds, NumbersHold, During}
use Rattle.meaning.specs.Moments.{Onward, here, stepped, Moment}
use Rattle.meaning.proofs.Moments.{Sound, MeantBy, onward_means, moment_means, job_above, opened_sound, plan_is}
use Rattle.meaning.proofs.Claims.{meant_product, meant_scale, meant_named, meant_numbers}

-- ---- a run goes onward

module _ {y : Setting} {o : State} (inputs : Digits y.input) (outputs : Digits y.output) (sound : Sound y o) where
  pub onward_sound : {done : Deed} {s : State} → Onward y o done s → Sound y s
  onward_sound steps = (onward_means inputs outputs sound steps).sound

  pub one_more : {done d : Deed} {s t : State} → Onward y o done s → (r : Supply) → (plain y).step s r ≡ goes t d → Onward y o (and_then done d) t
  one_more steps r e = stepped steps (plan_is inputs outputs (onward_sound steps)) r e

  -- where nothing more is done
  stays : {done : Deed} {s : State} → Onward y o done s → Onward y o (and_then done nothing) s
  stays {done} {s} steps = subst (λ (d : Deed). Onward y o d s) (sym (and_nothing done)) steps

  -- by what the first step does; `rest` is what follows it
  step_onward : (more : State → Supply → Course State Stop) → ((done : Deed) (s : State) (r : Supply) → Onward y o done s → During (Onward y o) done (more s r)) →
      {done : Deed} {s : State} → Onward y o done s → (r : Supply) (v : Outcome State Stop) → (plain y).step s r ≡ v → During (Onward y o) done (after more s r v)
  step_onward more rest {done} steps r (goes t d) e =
      let q = more t (spend d r) in
      subst (λ (a : Deed). Onward y o a q.state) (and_then_lem done d q.did) (rest (and_then done d) t (spend d r) (one_more steps r e))
  step_onward more rest steps r (halts e) p = stays steps

  pub steps_onward : (k : ℕ) (done : Deed) (s : State) (r : Supply) → Onward y o done s → During (Onward y o) done (run_by (plain y) k s r)
  unfolding run_by
  steps_onward zero done s r steps = stays steps
  steps_onward (suc k) done s r steps = step_onward (run_by (plain y) k) (steps_onward k) steps r ((plain y).step s r) refl

module _ {a b : System} (admitted : Admissible a × Admissible b) where
  -- calls, from any state that a session may be in
  pub calls_onward : {o : State} → Sound (setting a b) o → {done : Deed} {s : State} → Calls a b o done s → Onward (setting a b) o done s
  unfolding course_of run
  calls_onward sound none = here
  calls_onward {o} sound (called {done} {t = s} calls input output divisors) =
      let y = setting a b in
      let r = one_word input (length output) (length divisors) in
      let before = calls_onward sound calls in
      either (plain y) Refused (refusal_of y) s r (During (Onward y o) done)
      (λ e. steps_onward admitted.0.digits admitted.1.digits sound (suc (most_steps (plain y) s r)) done s r before)
      (λ n e. stays admitted.0.digits admitted.1.digits sound before)

-- ---- what a call did

-- it is what its answer and the lent lists tell
did_is : (a b : System) (s : State) (input output divisors : List ℕ) → (course_of a b s input (length output) (length divisors)).did ≡ did_by input (run_of a b s input output divisors)
unfolding run_of
did_is a b s input output divisors =
    let d = (course_of a b s input (length output) (length divisors)).did in
    let pays = (course_in_range a b s input (length output) (length divisors)).pays in
    sym (λ i. record {
      x = (ap (take (length d.x)) (sym pays.x) ∙ take-append_seam d.x (drop (length d.x) input)) i;
      y = sym (nil_from_length d.y (omega (arith, (within pays).1))) i;
      digits = front_written d.digits output i;
      divisors = front_written d.divisors divisors i;
    })

module _ {a b : System} {m : List ℤ} where
  -- "on two admitted systems"
  pub session_admitted : {done : Deed} {s : State} → Session a b m done s → Admissible a × Admissible b
  session_admitted session = (session.input, session.output)

  pub session_moment : {done : Deed} {s : State} → Session a b m done s → Moment (setting a b) m done s
  session_moment session = record {
    opens = session.opens;
    steps = calls_onward (session_admitted session) (opened_sound (setting a b) m session.opens) session.calls;
  }

  -- each of its states can be multiplied on, holds a digit of the input system or none, and is four numbers
  pub session_sound : {done : Deed} {s : State} → Session a b m done s → Sound (setting a b) s
  session_sound session = onward_sound session.input.digits session.output.digits (opened_sound (setting a b) m session.opens) (session_moment session).steps

  -- ---- at every moment

  module _ (admitted : Admissible a × Admissible b) {done : Deed} {s : State} (moment : Moment (setting a b) m done s) where
    means : MeantBy (setting a b) (opened (cancel_of m)) done s
    means = moment_means admitted.0.digits admitted.1.digits moment

    pub moment_product : ProductHolds a b m done s
    moment_product = meant_product (job_above moment.opens) done means

    -- the same with its scale, named by the divisors that the session listed
    pub moment_scale : ScaleNamed a b m done s
    moment_scale = meant_scale (job_above moment.opens) done means

    pub moment_named : NamedHolds a b m done s
    moment_named = meant_named (job_above moment.opens) done means

    pub moment_numbers : NumbersHold a b m done s
    moment_numbers = meant_numbers (job_above moment.opens) done means

  -- ---- between two calls

  module _ {done : Deed} {s : State} (session : Session a b m done s) where
    pub session_product : ProductHolds a b m done s
    session_product = moment_product (session_admitted session) (session_moment session)

    pub session_scale : ScaleNamed a b m done s
    session_scale = moment_scale (session_admitted session) (session_moment session)

    pub session_named : NamedHolds a b m done s
    session_named = moment_named (session_admitted session) (session_moment session)

    pub session_numbers : NumbersHold a b m done s
    session_numbers = moment_numbers (session_admitted session) (session_moment session)

    -- ---- between two steps of one call: after any number k of them, before any bytes, any room and any list

    module _ (input : List ℕ) (room list k : ℕ) where
      abbrev stands : Course State Stop
      stands = run_by (plain (setting a b)) k s (one_word input room list)

      pub call_moment : During (Moment (setting a b) m) done stands
      call_moment =
          let sound = opened_sound (setting a b) m session.opens in
          record { opens = session.opens; steps = steps_onward session.input.digits session.output.digits sound k done s (one_word input room list) (session_moment session).steps }

      pub call_product : During (ProductHolds a b m) done stands
      call_product = moment_product (session_admitted session) call_moment

      pub call_scale : During (ScaleNamed a b m) done stands
      call_scale = moment_scale (session_admitted session) call_moment

      pub call_named : During (NamedHolds a b m) done stands
      call_named = moment_named (session_admitted session) call_moment

      pub call_numbers : During (NumbersHold a b m) done stands
      call_numbers = moment_numbers (session_admitted session) call_moment

  -- ---- the bridge to the code

  -- a session, new, and with one call more
  pub newly_opened : Admissible a → Admissible b → (open_of m).opening ≡ Opens → Session a b m nothing (open_of m).state
  newly_opened i o e = record { input = i; output = o; opens = e; calls = none }

  pub called_again : {done : Deed} {s : State} → Session a b m done s → (input output divisors : List ℕ) →
      During (Session a b m) done (course_of a b s input (length output) (length divisors))
  called_again session input output divisors =
      record { input = session.input; output = session.output; opens = session.opens; calls = called session.calls input output divisors }

  -- what the contract of `run` says of its answer, and of the output and the list afterwards, makes the session's next call
  pub called_by_contract : {done : Deed} {s : State} (input output divisors : List ℕ) (r : Ran) → r ≡ run_of a b s input output divisors → Session a b m done s →
      Session a b m (and_then done (did_by input r)) r.answer.state
  unfolding run_of
  called_by_contract {done} {s} input output divisors r e session =
      let q = course_of a b s input (length output) (length divisors) in
      subst (λ (r : Ran). Session a b m (and_then done (did_by input r)) r.answer.state) (sym e)
      (subst (λ (d : Deed). Session a b m (and_then done d) q.state) (did_is a b s input output divisors) (called_again session input output divisors))

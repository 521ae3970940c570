-- The theorems of demand 3 for sessions over two words: `two_product`, `two_named` and `two_numbers_lem` at every moment, also between two steps of a call, and
-- `session_two_product`, `session_two_named` and `session_two_numbers` between two calls. What they say is written out in specs/TwoSession.antt.
-- The argument: each call's state is the next call's, so a session is one list of steps. What is meant (`TwoMeant`) and the rules for a state hold of the opened state, each step
-- keeps both, and a refused call changes nothing; so every session stands at such a moment, of which the sentences are read off (TwoClaims).
-- Last, the bridge to the code: `called_by_contract_two` makes a session's next call of any answer and output that equal those of `two_run`, which is what `run`'s contract says.
use Rattle.whole.proofs.Laws.{◌≡◌, refl, sym, ◌∙◌, ap, subst, List, [], ◌∷◌, ◌++◌, ℕ, zero, suc, ◌≤◌, arith, length, take, drop, take-append_seam}
use Rattle.bilinear.proofs.Laws.{Form, into_y, entries_form, times_identity, into_x_identity, into_y_identity}
use Rattle.digits.proofs.Laws.{System}
use Rattle.admission.proofs.Laws.{Admissible, Digits}
use Rattle.runs.proofs.Laws.{Supply, Deed, nothing, and_then, spend, Going, Outcome, goes, halts, most_steps, Course, after, run_by, run, and_nothing, and_then_lem, front_written, either}
use Rattle.states.proofs.Laws.{Stop, Refused}
use Rattle.steps.proofs.Laws.{Setting, setting}
use Rattle.two_states.proofs.Laws.{TwoState, TwoRules, opened_two, opened_sum_rules, opened_difference_rules, opened_product_rules}
use Rattle.two_steps.proofs.Laws.{pairs, two_words, Kept, step_keeps}
use Rattle.binary.proofs.Laws.{TwoRan, two_refusal, two_course, two_run, course_in_range}
use Rattle.meaning.proofs.Laws.{product_of, EachInItsInterval}
use Rattle.two_meaning.specs.TwoSession.{two_did_by, Operation, adding, subtracting, multiplying, TwoCalls, none, called, TwoSession, TwoProductHolds, TwoNamedHolds, TwoNumbersHold, DuringTwo}
use Rattle.two_meaning.proofs.UpToScale.{up_equal}
use Rattle.two_meaning.proofs.TwoMoments.{TwoMeantBy, step_means}
use Rattle.two_meaning.proofs.TwoClaims.{meant_product, meant_named, meant_numbers}

-- ---- the opened state: what is meant of it, and that it keeps the rules for a state

pub record TwoMoment (y : Setting) (op : Form) (done : Deed) (s : TwoState) : Type 0 where
  pub means : TwoMeantBy y op done s
  pub kept : Kept y done s

opened_rules : {op : Form} → Operation op → (n : ℕ) → TwoRules n (opened_two op)
opened_rules adding = opened_sum_rules
opened_rules subtracting = opened_difference_rules
opened_rules multiplying = opened_product_rules

opened_moment : {op : Form} → Operation op → (y : Setting) → TwoMoment y op nothing (opened_two op)
unfolding product_of EachInItsInterval
opened_moment {op} operation y = record {
  means = record {
    absorbed_x_lem = [];
    absorbed_y_lem = [];
    with_held_x = refl;
    with_held_y = refl;
    product = up_equal (times_identity op ∙ sym (ap (λ (m : Form). into_y m (product_of y.input [])) (into_x_identity op) ∙ into_y_identity (entries_form op)));
    intervals = λ r t x hx z hy. tt;
  };
  kept = record { digits = tt; state = opened_rules operation y.input.count };
}

-- ---- runs and calls

module _ {y : Setting} {op : Form} (inputs : Digits y.input) (outputs : Digits y.output) where
  -- where nothing more is done
  stays : {done : Deed} {s : TwoState} → TwoMoment y op done s → TwoMoment y op (and_then done nothing) s
  stays {done} {s} m = subst (λ (d : Deed). TwoMoment y op d s) (sym (and_nothing done)) m

  -- by what the first step does; `rest` is what follows it
  step_moment : (more : TwoState → Supply → Course TwoState Stop) → ((done : Deed) (s : TwoState) (r : Supply) → TwoMoment y op done s → DuringTwo (TwoMoment y op) done (more s r)) →
      {done : Deed} {s : TwoState} (r : Supply) → TwoMoment y op done s → (v : Outcome TwoState Stop) →
      Going (λ t d. TwoMeantBy y op (and_then done d) t) v → Going (λ t d. Kept y (and_then done d) t) v → DuringTwo (TwoMoment y op) done (after more s r v)
  step_moment more rest {done} r m (goes t d) k l =
      let q = more t (spend d r) in
      subst (λ (a : Deed). TwoMoment y op a q.state) (and_then_lem done d q.did) (rest (and_then done d) t (spend d r) (record { means = k; kept = l }))
  step_moment more rest r m (halts e) k l = stays m

  pub steps_moment : (k : ℕ) (done : Deed) (s : TwoState) (r : Supply) → TwoMoment y op done s → DuringTwo (TwoMoment y op) done (run_by (pairs y) k s r)
  unfolding run_by
  steps_moment zero done s r m = stays m
  steps_moment (suc k) done s r m = step_moment (run_by (pairs y) k) (steps_moment k) r m ((pairs y).step s r)
      (step_means inputs outputs m.kept.state done m.means r) (step_keeps y inputs outputs done s m.kept r)

module _ {a b : System} {op : Form} where
  calls_moment : Digits a → Digits b → Operation op → {done : Deed} {s : TwoState} → TwoCalls a b (opened_two op) done s → TwoMoment (setting a b) op done s
  unfolding two_course run
  calls_moment inputs outputs operation none = opened_moment operation (setting a b)
  calls_moment inputs outputs operation (called {done} {t = s} calls xs ys output) =
      let y = setting a b in
      let r = two_words xs ys (length output) in
      let before = calls_moment inputs outputs operation calls in
      either (pairs y) Refused (two_refusal y) s r (DuringTwo (TwoMoment y op) done)
      (λ e. steps_moment inputs outputs (suc (most_steps (pairs y) s r)) done s r before)
      (λ n e. stays inputs outputs before)

  pub session_two_moment : {done : Deed} {s : TwoState} → TwoSession a b op done s → TwoMoment (setting a b) op done s
  session_two_moment session = calls_moment session.input.digits session.output.digits session.operation session.calls

-- ---- of sessions

module _ {a b : System} {op : Form} {done : Deed} {s : TwoState} (session : TwoSession a b op done s) where
  pub session_two_product : TwoProductHolds a b op done s
  session_two_product = meant_product done (session_two_moment session).means

  pub session_two_named : TwoNamedHolds a b op done s
  session_two_named = meant_named done (session_two_moment session).means

  pub session_two_numbers : TwoNumbersHold a b op done s
  session_two_numbers = meant_numbers done (session_two_moment session).means

  -- after any number k of steps of a call, before any bytes of each word and any room
  module _ (xs ys : List ℕ) (room k : ℕ) where
    abbrev stands : Course TwoState Stop
    stands = run_by (pairs (setting a b)) k s (two_words xs ys room)

    pub call_two_moment : DuringTwo (TwoMoment (setting a b) op) done stands
    call_two_moment = steps_moment session.input.digits session.output.digits k done s (two_words xs ys room) (session_two_moment session)

    pub two_product : DuringTwo (TwoProductHolds a b op) done stands
    two_product = meant_product (and_then done stands.did) call_two_moment.means

    pub two_named : DuringTwo (TwoNamedHolds a b op) done stands
    two_named = meant_named (and_then done stands.did) call_two_moment.means

    pub two_numbers_lem : DuringTwo (TwoNumbersHold a b op) done stands
    two_numbers_lem = meant_numbers (and_then done stands.did) call_two_moment.means

-- ---- the bridge to the code
no_divisors : (l : List ℕ) → length l ≤ 0 → l ≡ []
no_divisors [] h = refl
no_divisors (g ∷ l) h = absurd (omega arith)

-- the bytes that were taken are the first that lay there
front : (taken bytes : List ℕ) → taken ++ drop (length taken) bytes ≡ bytes → take (length taken) bytes ≡ taken
front taken bytes e = ap (take (length taken)) (sym e) ∙ take-append_seam taken (drop (length taken) bytes)

did_is : (a b : System) (s : TwoState) (xs ys output : List ℕ) → (two_course a b s xs ys (length output)).did ≡ two_did_by xs ys (two_run a b s xs ys output)
unfolding two_run
did_is a b s xs ys output =
    let d = (two_course a b s xs ys (length output)).did in
    let pays = (course_in_range a b s xs ys (length output)).pays in
    sym (λ i. record {
      x = front d.x xs pays.x i;
      y = front d.y ys pays.y i;
      digits = front_written d.digits output i;
      divisors = sym (no_divisors d.divisors pays.list) i;
    })

module _ {a b : System} {op : Form} where
  -- a session, new, and with one call more
  pub newly_opened_two : Admissible a → Admissible b → Operation op → TwoSession a b op nothing (opened_two op)
  newly_opened_two i o operation = record { input = i; output = o; operation = operation; calls = none }

  pub called_again_two : {done : Deed} {s : TwoState} → TwoSession a b op done s → (xs ys output : List ℕ) → DuringTwo (TwoSession a b op) done (two_course a b s xs ys (length output))
  called_again_two session xs ys output =
      record { input = session.input; output = session.output; operation = session.operation; calls = called session.calls xs ys output }

  -- what the contract of `run` says of its answer, and of the output afterwards, makes the session's next call
  pub called_by_contract_two : {done : Deed} {s : TwoState} (xs ys output : List ℕ) (r : TwoRan) → r ≡ two_run a b s xs ys output → TwoSession a b op done s →
      TwoSession a b op (and_then done (two_did_by xs ys r)) r.answer.state
  unfolding two_run
  called_by_contract_two {done} {s} xs ys output r e session =
      let q = two_course a b s xs ys (length output) in
      subst (λ (r : TwoRan). TwoSession a b op (and_then done (two_did_by xs ys r)) r.answer.state) (sym e)
      (subst (λ (d : Deed). TwoSession a b op (and_then done d) q.state) (did_is a b s xs ys output) (called_again_two session xs ys output))

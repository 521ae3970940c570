-- A session over two words by the C functions is a session (`two_plugin_session`): so every sentence of demand 3 for two words holds of what plug-ins do (`two_plugin_meaning`).
-- The eleven numbers that a call leaves are those of the session's state, and are read back as that state (`two_state_back`): a held digit is one of at most 16, so it is a byte;
-- and the state's two lists have four numbers each, since those of each operation have, and a step keeps the lists or makes new ones by cancelling, which are of four again.
-- By induction over the calls. No call of a session is refused, so each writes its state back; and what it answers is what `run` answers.
use Rattle.whole.proofs.Laws.{◌≡◌, refl, sym, ap, subst, ◌∙◌, List, ℕ, length, eqb, ℤ}
use Rattle.bilinear.proofs.Laws.{Form, cancel_form}
use Rattle.digits.proofs.Laws.{StoredSystem, System, system_of}
use Rattle.admission.proofs.Laws.{Admitted, admitted_exactly}
use Rattle.runs.proofs.Laws.{Supply, Deed, nothing, and_then, Going, runs, keeps, either}
use Rattle.states.proofs.Laws.{Refused}
use Rattle.steps.proofs.Laws.{Setting, setting}
use Rattle.two_states.proofs.Laws.{TwoState, opened_two}
use Rattle.two_steps.proofs.Laws.{pairs, two_words, lawful, step_goes}
use Rattle.binary.proofs.Laws.{two_refusal, two_course, two_run, two_accepted, in_range}
use Rattle.two_meaning.proofs.Laws.{Operation, adding, subtracting, multiplying, TwoCalls, TwoSession, TwoProductHolds, TwoNamedHolds, TwoNumbersHold}
use Rattle.two_meaning.proofs.Laws.{none, called as calledAgain, session_two_moment, session_two_product, session_two_named, session_two_numbers, newly_opened_two, called_by_contract_two}
use Rattle.numbers.proofs.Laws.{wrong_length}
use Rattle.numbers.specs.Numbers.{Wrote}
use Rattle.two_call.proofs.Laws.{AfterTwo, two_numbers, two_from, two_after, two_opened, two_call_of, two_back}
use Rattle.two_call.specs.TwoCall.{ran_two, two_lengths?}
use Rattle.plugin_sessions.specs.TwoPluginSession.{TwoPluginSession, opened, called, IsTwoSession, did_two}
use Rattle.plugin_sessions.proofs.Shared.{not_40, answers_0, admits, held_byte}

-- ---- a session's state has two lists of four numbers

record Eight (m : Form) : Type 0 where
  over : length m.numerator ≡ 4
  under : length m.denominator ≡ 4

operation_eight : {op : Form} → Operation op → Eight op
operation_eight adding = record { over = refl; under = refl }
operation_eight subtracting = record { over = refl; under = refl }
operation_eight multiplying = record { over = refl; under = refl }

cancelled_eight : (m : Form) → Eight (cancel_form m)
unfolding cancel_form
cancelled_eight m = record { over = refl; under = refl }

step_eight : (y : Setting) (s : TwoState) → Eight s.form → (r : Supply) → Going (λ t d. Eight t.form) ((pairs y).step s r)
step_eight y s h = step_goes y s (λ t d. Eight t.form) (record {
  load_x_lem = λ a free below. h;
  load_y_lem = λ b free below. h;
  give = λ a b c holds-x holds-y chosen w. cancelled_eight _;
  absorb_x = λ a holds w. cancelled_eight _;
  absorb_y = λ b holds w. cancelled_eight _;
})

calls_eight : {a b : System} {s t : TwoState} {done : Deed} → TwoCalls a b s done t → Eight s.form → Eight t.form
unfolding two_course
calls_eight none h = h
calls_eight {a} {b} (calledAgain {t = t} calls xs ys output) h =
    let y = setting a b in
    let r = two_words xs ys (length output) in
    let before = calls_eight calls h in
    either (pairs y) Refused (two_refusal y) t r (λ q. Eight q.state.form)
    (λ e. keeps (lawful y) (λ d u. Eight u.form) (λ d u r k. step_eight y u k r) (runs (lawful y) t r) nothing before)
    (λ n e. before)

-- ---- so it is read back from its numbers, and no call refuses it

module _ {a b : System} {op : Form} {done : Deed} {s : TwoState} (session : TwoSession a b op done s) where
  pub two_state_back : two_from (two_numbers s) ≡ s
  two_state_back =
      let eight = calls_eight session.calls (operation_eight session.operation) in
      let rules = (session_two_moment session).kept.state in
      let few = session.input.few_digits in
      two_back s eight.over eight.under (held_byte a.count s.x few rules.held_x) (held_byte a.count s.y few rules.held_y)

  pub session_two_accepted : two_refusal (setting a b) s ≡ 0
  session_two_accepted = (two_accepted (setting a b) s).1
      ((admitted_exactly a Admitted).1 session.input, (admitted_exactly b Admitted).1 session.output, (session_two_moment session).kept.state)

-- ---- opening

opens_two : (s : TwoState) (old : List ℤ) → (two_opened s old).number ≡ 0 → (two_opened s old).numbers ≡ two_numbers s
unfolding two_opened
opens_two s old e = ap (λ (w : Wrote). w.numbers) (answers_0 (λ (w : Wrote). w.number) refl (eqb (length old) 11) e).1

-- ---- the calls

module _ {in-system out-system : StoredSystem} {op : Form} {done : Deed} {kept : List ℤ} (is : IsTwoSession in-system out-system op done kept) (xs ys output : List ℕ) where
  abbrev a : System
  a = system_of in-system

  abbrev b : System
  b = system_of out-system

  -- what a call leaves makes a session
  abbrev Leaves : AfterTwo → Type 0
  Leaves r = IsTwoSession in-system out-system op (and_then done (did_two xs ys r)) r.state

  -- no call of a session is refused, so it writes its state
  writes : let r = two_run a b is.state xs ys output in two_after r.answer.stop r.answer.state kept ≡ two_numbers r.answer.state
  unfolding two_after
  writes = rw ((in_range a b is.state xs ys output).ended (session_two_accepted is.session)).not_refused

  ran_is : Leaves (ran_two (two_run a b is.state xs ys output) kept)
  ran_is =
      let r = two_run a b is.state xs ys output in
      let next = called_by_contract_two xs ys output r refl is.session in
      record { state = r.answer.state; session = next; numbers = writes; read_back = ap two_from writes ∙ two_state_back next }

  called_is : (counts : List ℕ) → ((two_call_of in-system out-system xs ys kept output counts).number ≡ wrong_length → ⊥) → Leaves (two_call_of in-system out-system xs ys kept output counts)
  unfolding two_call_of
  called_is counts right =
      let ran = subst (λ (s : TwoState). Leaves (ran_two (two_run a b s xs ys output) kept)) (sym is.read_back) ran_is in
      subst Leaves (sym (not_40 (λ (r : AfterTwo). r.number) refl (two_lengths? in-system out-system kept counts) right).1) ran

pub two_plugin_session : {a b : StoredSystem} {op : Form} {done : Deed} {kept : List ℤ} → TwoPluginSession a b op done kept → IsTwoSession a b op done kept
two_plugin_session {a} {b} {op} (opened i o operation old e) =
    let session = newly_opened_two (admits a i) (admits b o) operation in
    let numbers = opens_two (opened_two op) old e in
    record { state = opened_two op; session = session; numbers = numbers; read_back = ap two_from numbers ∙ two_state_back session }
two_plugin_session (called before xs ys output counts right) = called_is (two_plugin_session before) xs ys output counts right

-- so all that demand 3 says of two words holds of it
pub two_plugin_meaning : {in-system out-system : StoredSystem} {op : Form} {done : Deed} {kept : List ℤ} (p : TwoPluginSession in-system out-system op done kept) →
    let a = system_of in-system in
    let b = system_of out-system in
    let s = (two_plugin_session p).state in
    TwoProductHolds a b op done s × TwoNamedHolds a b op done s × TwoNumbersHold a b op done s
two_plugin_meaning p = let session = (two_plugin_session p).session in (session_two_product session, session_two_named session, session_two_numbers session)

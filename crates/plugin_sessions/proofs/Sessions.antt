-- A session by the C functions is a session (`plugin_session`): so every sentence of demand 3 holds of what plug-ins do (`plugin_meaning`). The five numbers that a call leaves are those of
-- the session's state, and are read back as that state (`session_state_back`): its matrix is four numbers, and a held digit is one of at most 16, so it is a byte.
-- By induction over the calls. No call of a session is refused, so each writes its state back; and what it answers is what `run` answers.
use Rattle.whole.proofs.Laws.{◌≡◌, refl, sym, ap, subst, ◌∙◌, List, ℕ, length, eqb, ℤ, pos, both_true, eqb-true}
use Rattle.plane.proofs.Laws.{entries}
use Rattle.digits.proofs.Laws.{StoredSystem, System, system_of}
use Rattle.runs.proofs.Laws.{Deed, and_then}
use Rattle.states.proofs.Laws.{State}
use Rattle.opening.proofs.Laws.{Opens, opening_number, open_of, opening_0}
use Rattle.unary.proofs.Laws.{run_of, in_range}
use Rattle.meaning.proofs.Laws.{session_sound, session_accepted, session_product, session_scale, session_named, session_numbers, newly_opened, called_by_contract}
use Rattle.meaning.specs.Session.{Session, ProductHolds, ScaleNamed, NamedHolds, NumbersHold}
use Rattle.numbers.proofs.Laws.{wrong_length, wrote, state_numbers, state_after, known, state_back}
use Rattle.numbers.specs.Numbers.{Wrote, state_from}
use Rattle.open_call.proofs.Laws.{open_call_of}
use Rattle.open_call.specs.OpenCall.{open_lengths?}
use Rattle.run_call.proofs.Laws.{run_call_of}
use Rattle.run_call.specs.RunCall.{AfterRun, run_lengths?, ran_call}
use Rattle.plugin_sessions.specs.PluginSession.{PluginSession, opened, called, IsSession, did_call}
use Rattle.plugin_sessions.proofs.Shared.{not_40, answers_0, next_0, admits, held_byte}

-- ---- a session's state is read back from its numbers

pub session_state_back : {a b : System} {m : List ℤ} {done : Deed} {s : State} → Session a b m done s → state_from (state_numbers s) ≡ s
session_state_back {a} {s = s} session =
    let sound = session_sound session in
    state_back s sound.four (held_byte a.count s.held session.input.few_digits sound.held_digit)

-- ---- opening

-- a matrix of four numbers that opens, and its state's numbers
record Opened (m old : List ℤ) : Type 0 where
  four : length m ≡ 4
  opens : (open_of m).opening ≡ Opens
  numbers : (open_call_of m old).numbers ≡ state_numbers (open_of m).state

opens_call : (m old : List ℤ) → (open_call_of m old).number ≡ 0 → Opened m old
unfolding open_call_of
opens_call m old e =
    let right = answers_0 (λ (w : Wrote). w.number) refl (open_lengths? m old) e in
    let four = eqb-true (length m) 4 (both_true (eqb (length m) 4) (eqb (length old) 5) right.0).0 in
    let same : entries m ≡ m = rw (known (pos 0) 4 m four) in
    let number = next_0 (λ (w : Wrote). w.number) {refuse = λ k. wrote k old} {next = wrote 0 (state_numbers (open_of (entries m)).state)} (λ k. refl)
    (opening_number (open_of (entries m)).opening) (ap (λ (w : Wrote). w.number) (sym right.1) ∙ e) in
    record {
      four = four;
      opens = ap (λ (x : List ℤ). (open_of x).opening) (sym same) ∙ opening_0 (open_of (entries m)).opening number.0;
      numbers = ap (λ (w : Wrote). w.numbers) (right.1 ∙ number.1) ∙ ap (λ (x : List ℤ). state_numbers (open_of x).state) same;
    }

-- ---- the calls

module _ {in-system out-system : StoredSystem} {m : List ℤ} {done : Deed} {kept : List ℤ} (is : IsSession in-system out-system m done kept) (input output divisors : List ℕ) where
  abbrev a : System
  a = system_of in-system

  abbrev b : System
  b = system_of out-system

  -- what a call leaves makes a session
  abbrev Leaves : AfterRun → Type 0
  Leaves r = IsSession in-system out-system m (and_then done (did_call input r)) r.state

  -- no call of a session is refused, so it writes its state
  writes : let r = run_of a b is.state input output divisors in state_after r.answer.stop r.answer.state kept ≡ state_numbers r.answer.state
  unfolding state_after
  writes = rw ((in_range a b is.state input output divisors).ended (session_accepted is.session)).not_refused

  ran_is : Leaves (ran_call (run_of a b is.state input output divisors) kept)
  ran_is =
      let r = run_of a b is.state input output divisors in
      let next = called_by_contract input output divisors r refl is.session in
      record { state = r.answer.state; session = next; numbers = writes; read_back = ap state_from writes ∙ session_state_back next }

  called_is : (counts : List ℕ) → ((run_call_of in-system out-system input kept output divisors counts).number ≡ wrong_length → ⊥) → Leaves (run_call_of in-system out-system input kept output divisors counts)
  unfolding run_call_of
  called_is counts right =
      let ran = subst (λ (s : State). Leaves (ran_call (run_of a b s input output divisors) kept)) (sym is.read_back) ran_is in
      subst Leaves (sym (not_40 (λ (r : AfterRun). r.number) refl (run_lengths? in-system out-system kept counts) right).1) ran

pub plugin_session : {a b : StoredSystem} {m : List ℤ} {done : Deed} {kept : List ℤ} → PluginSession a b m done kept → IsSession a b m done kept
plugin_session {a} {b} {m} (opened i o old e) =
    let call = opens_call m old e in
    let session = newly_opened (admits a i) (admits b o) call.opens in
    record { state = (open_of m).state; session = session; numbers = call.numbers; read_back = ap state_from call.numbers ∙ session_state_back session }
plugin_session (called before input output divisors counts right) = called_is (plugin_session before) input output divisors counts right

-- so all that demand 3 says holds of it
pub plugin_meaning : {in-system out-system : StoredSystem} {m : List ℤ} {done : Deed} {kept : List ℤ} (p : PluginSession in-system out-system m done kept) →
    let a = system_of in-system in
    let b = system_of out-system in
    let s = (plugin_session p).state in
    ProductHolds a b m done s × ScaleNamed a b m done s × NamedHolds a b m done s × NumbersHold a b m done s
plugin_meaning p = let session = (plugin_session p).session in (session_product session, session_scale session, session_named session, session_numbers session)

-- What every answer of a run keeps to, whatever was handed in: the theory of runs (crates/runs), of the steps of crates/steps, judged first.
-- `in_range`: every number of it lies in its stated range: the bytes taken are at most those that were there, the digits written at most the room, the divisors listed
-- at most the list; every byte written is a digit of the output system, and every number listed a divisor; the output and the list are as long as before; the end is 0, 15,
-- 20, 21, 22 or a refusal's number; the state keeps the rules for a state, unless it was refused. `written_only`: "Bytes of the output beyond the written ones are unchanged." `few_steps`: a run makes at most 2·taken + written + 1 steps, and one more
-- where a digit was held at the start. (Without the one more it is false: a run that absorbs a held digit and then finds no byte makes 2 steps, takes nothing and
-- writes nothing.)
use Rattle.whole.proofs.Laws.{◌≡◌, refl, ap, subst, List, ◌⊎◌, inl, inr, ℕ, zero, suc, ◌+◌, ◌*◌, ◌≤◌, ◌<◌, arith, length, drop, List·getD-append}
use Rattle.digits.proofs.Laws.{System}
use Rattle.admission.proofs.Laws.{admitted_digits}
use Rattle.runs.proofs.Laws.{Supply, nothing, spend, Pays, cost, Halting, Course, stopped, run, within, nothing_pays, behind_unchanged, length_written, runs, paid, keeps, last_step, either, accepted_run, refused_run}
use Rattle.states.proofs.Laws.{None, State, Stop, Refused, StateRules, StepEnd, held_count, end_number}
use Rattle.steps.proofs.Laws.{Setting, setting, plain, one_word, lawful, step_stops, DivisorNumber, Every, every_at, Below, Kept, step_keeps}
use Rattle.runs.proofs.Laws as every
use Rattle.judging.proofs.Laws.{refusal_of, accepted, RefusalNumber, refusal_number_lem}
use Rattle.unary.specs.Run.{course_of, leaves, run_of, steps_of, run_steps}
use Rattle.unary.specs.Ranges.{AnswerInRange}

-- ---- a run that is not refused keeps the rules for a state, so the state that it hands back is never refused by the next

run_keeps : (y : Setting) (s : State) (r : Supply) → refusal_of y s ≡ 0 → Kept y (run (plain y) s r).did (run (plain y) s r).state
run_keeps y s r e =
    let a = (accepted y s).0 e in
    keeps (lawful y) (Kept y) (step_keeps y (admitted_digits y.input a.input) (admitted_digits y.output a.output)) (runs (lawful y) s r) nothing
    (record { digits = tt; divisors = tt; state = a.state })

pub accepted_again : (y : Setting) (s : State) (r : Supply) → refusal_of y s ≡ 0 → refusal_of y (run (plain y) s r).state ≡ 0
accepted_again y s r e =
    let a = (accepted y s).0 e in
    (accepted y (run (plain y) s r).state).1 (record { input = a.input; output = a.output; state = (run_keeps y s r e).state })

-- ---- of any run: refused or not

-- what a run did could be done, its digits are digits, and so on
pub record CourseInRange (a b : System) (s : State) (input : List ℕ) (room list : ℕ) (q : Course State Stop) : Type 0 where
  pub pays : Pays q.did (one_word input room list)
  pub digits : Below b.count q.did.digits
  pub divisors : Every DivisorNumber q.did.divisors
  pub state : refusal_of (setting a b) s ≡ 0 → StateRules a.count q.state
  pub stop : StepEnd q.stop ⊎ RefusalNumber (end_number q.stop)
  pub ended : refusal_of (setting a b) s ≡ 0 → StepEnd q.stop
  pub steps : q.steps + 2 * length q.did.y ≤ cost q.did + held_count s.held

module _ (a b : System) (s : State) (input : List ℕ) where
  pub course_in_range : (room list : ℕ) → CourseInRange a b s input room list (course_of a b s input room list)
  unfolding course_of
  course_in_range room list = either (plain y) Refused (refusal_of y) s r (CourseInRange a b s input room list)
      (λ e. let g = runs (lawful y) s r in
      let end = subst (Halting StepEnd) (last_step (lawful y) g) (step_stops y (run (plain y) s r).state (spend (run (plain y) s r).did r)) in record {
        pays = paid (lawful y) g;
        digits = (run_keeps y s r e).digits;
        divisors = (run_keeps y s r e).divisors;
        state = λ z. (run_keeps y s r e).state;
        stop = inl end;
        ended = λ z. end;
        steps = omega (arith, every.few_steps (lawful y) g, (within (paid (lawful y) g)).1);
      })
      (λ n e. record { pays = nothing_pays r; digits = tt; divisors = tt; state = λ z. absurd (omega (arith, z, e)); stop = inr (by n e (refusal_number_lem y s)); ended = λ z. absurd (omega (arith, z, e)); steps = omega arith })
    where
      y : Setting
      y = setting a b

      r : Supply
      r = one_word input room list

      by : (n : ℕ) → refusal_of y s ≡ suc n → (refusal_of y s ≡ 0) ⊎ RefusalNumber (refusal_of y s) → RefusalNumber (suc n)
      by n e (inl z) = absurd (omega (arith, z, e))
      by n e (inr k) = subst RefusalNumber e k

module _ (a b : System) (s : State) (inp out list : List ℕ) where
  pub in_range : AnswerInRange a b s inp out list (run_of a b s inp out list)
  unfolding run_of
  in_range =
      let q = course_of a b s inp (length out) (length list) in
      let c = course_in_range a b s inp (length out) (length list) in
      record {
        taken = (within c.pays).0;
        written = c.pays.room;
        listed = c.pays.list;
        room = length_written q.did.digits out c.pays.room;
        digits = λ p h. rw (List·getD-append q.did.digits (drop (length q.did.digits) out) 0 p h) (every_at (λ d. d < b.count) q.did.digits p c.digits h);
        unwritten = behind_unchanged q.did.digits out;
        list_room = length_written q.did.divisors list c.pays.list;
        divisors = λ p h. rw (List·getD-append q.did.divisors (drop (length q.did.divisors) list) 0 p h) (every_at DivisorNumber q.did.divisors p c.divisors h);
        unlisted = behind_unchanged q.did.divisors list;
        state = c.state;
        stop = c.stop;
        ended = c.ended;
      }

  -- "Bytes of the output beyond the written ones are unchanged"; of the list, "the rest of it stays"
  pub written_only : let r = run_of a b s inp out list in
      (drop r.answer.written.0 r.output ≡ drop r.answer.written.0 out) × (drop r.answer.listed.0 r.divisors ≡ drop r.answer.listed.0 list)
  written_only = (in_range.unwritten, in_range.unlisted)

  -- where nothing is refused a run is its steps; and where something is, "it then answers the number, counts 0 and 0, the state as handed in, and an untouched output"
  pub run_accepted : refusal_of (setting a b) s ≡ 0 → run_of a b s inp out list ≡ steps_of (setting a b) s inp out list
  unfolding run_of course_of steps_of
  run_accepted e = ap (λ (q : Course State Stop). leaves q out list) (accepted_run (plain (setting a b)) Refused (refusal_of (setting a b)) s (one_word inp (length out) (length list)) e)

  pub refused_untouched : (refusal_of (setting a b) s ≡ 0 → ⊥) → run_of a b s inp out list ≡ leaves (stopped (Refused (refusal_of (setting a b) s)) s) out list
  unfolding run_of course_of
  refused_untouched f = by (refusal_of (setting a b) s) refl
    where
      by : (n : ℕ) → refusal_of (setting a b) s ≡ n → run_of a b s inp out list ≡ leaves (stopped (Refused n) s) out list
      by zero e = absurd (f e)
      by (suc n) e = ap (λ (q : Course State Stop). leaves q out list) (refused_run (plain (setting a b)) Refused (refusal_of (setting a b)) s (one_word inp (length out) (length list)) n e)

  pub few_steps : let r = (run_of a b s inp out list).answer in run_steps a b s inp out list ≤ 2 * r.taken.0 + r.written.0 + 1 + held_count s.held
  unfolding run_of
  few_steps = omega (arith, (course_in_range a b s inp (length out) (length list)).steps)

  -- so of a run that starts with nothing held, 2·taken + written + 1
  pub few_steps_free : s.held ≡ None → let r = (run_of a b s inp out list).answer in run_steps a b s inp out list ≤ 2 * r.taken.0 + r.written.0 + 1
  few_steps_free e = omega (arith, few_steps, ap held_count e)

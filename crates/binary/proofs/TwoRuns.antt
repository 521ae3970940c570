-- What every answer of a run over two words keeps to, whatever was handed in: the theory of runs (crates/runs), of the steps of crates/two_steps, judged first.
-- `in_range`: the bytes taken of each word are at most those that were there, the digits written at most the room; every byte written is a digit of the output system, and behind
-- them nothing changed; the end is 0, 20, 21, 22 or a refusal's number; the state keeps the rules for a state, unless it was refused. `few_steps`: a run makes at most
-- 2·(taken of x) + 2·(taken of y) + written + 1 steps, and one more for each digit that was held at the start.
use Rattle.whole.proofs.Laws.{◌≡◌, refl, ap, subst, false, List, ◌⊎◌, inl, inr, ℕ, zero, suc, ◌+◌, ◌*◌, ◌≤◌, ◌<◌, arith, length, drop, List·getD-append}
use Rattle.digits.proofs.Laws.{System}
use Rattle.admission.proofs.Laws.{admitted_digits}
use Rattle.runs.proofs.Laws.{Supply, nothing, spend, Pays, cost, Halting, Course, stopped, run, within, nothing_pays, behind_unchanged, length_written, runs, paid, keeps, last_step, either, accepted_run, refused_run}
use Rattle.states.proofs.Laws.{Stop, Refused, end_number, refused?}
use Rattle.steps.proofs.Laws.{Setting, setting, every_at, Below}
use Rattle.runs.proofs.Laws as every
use Rattle.judging.proofs.Laws.{RefusalNumber}
use Rattle.two_states.proofs.Laws.{TwoState, TwoRules, held_two}
use Rattle.two_steps.proofs.Laws.{pairs, two_words, lawful, step_halts, Kept, step_keeps}
use Rattle.binary.specs.TwoRun.{two_refusal, two_course, leaves, two_run, two_steps_of, two_run_steps}
use Rattle.binary.specs.TwoRanges.{TwoStepEnd, TwoAnswerInRange}
use Rattle.binary.proofs.TwoJudging.{two_accepted, two_refusal_number}

-- ---- a run that is not refused keeps the rules for a state, so the state that it hands back is never refused by the next

run_keeps : (y : Setting) (s : TwoState) (r : Supply) → two_refusal y s ≡ 0 → Kept y (run (pairs y) s r).did (run (pairs y) s r).state
run_keeps y s r e =
    let a = (two_accepted y s).0 e in
    keeps (lawful y) (Kept y) (λ d t r k. step_keeps y (admitted_digits y.input a.0) (admitted_digits y.output a.1) d t k r) (runs (lawful y) s r) nothing
    (record { digits = tt; state = a.2 })

pub accepted_again : (y : Setting) (s : TwoState) (r : Supply) → two_refusal y s ≡ 0 → two_refusal y (run (pairs y) s r).state ≡ 0
accepted_again y s r e = let a = (two_accepted y s).0 e in (two_accepted y (run (pairs y) s r).state).1 (a.0, a.1, (run_keeps y s r e).state)

-- ---- a step stops with 0, 20, 21 or 22

step_ends : (y : Setting) (s : TwoState) (r : Supply) → Halting TwoStepEnd ((pairs y).step s r)
step_ends = step_halts TwoStepEnd (record { number = inl refl; not_refused = refl }) (between refl (omega arith) (omega arith)) (between refl (omega arith) (omega arith)) (between refl (omega arith) (omega arith))
  where
    between : {e : Stop} → refused? e ≡ false → 20 ≤ end_number e → end_number e ≤ 22 → TwoStepEnd e
    between r h k = record { number = inr (h, k); not_refused = r }

-- ---- of any run: refused or not

-- what a run did could be done, its digits are digits, and so on
pub record CourseInRange (a b : System) (s : TwoState) (xs ys : List ℕ) (room : ℕ) (q : Course TwoState Stop) : Type 0 where
  pub pays : Pays q.did (two_words xs ys room)
  pub digits : Below b.count q.did.digits
  pub state : two_refusal (setting a b) s ≡ 0 → TwoRules a.count q.state
  pub stop : TwoStepEnd q.stop ⊎ RefusalNumber (end_number q.stop)
  pub ended : two_refusal (setting a b) s ≡ 0 → TwoStepEnd q.stop
  pub steps : q.steps ≤ cost q.did + held_two s

module _ (a b : System) (s : TwoState) (xs ys : List ℕ) where
  pub course_in_range : (room : ℕ) → CourseInRange a b s xs ys room (two_course a b s xs ys room)
  unfolding two_course
  course_in_range room = either (pairs y) Refused (two_refusal y) s r (CourseInRange a b s xs ys room)
      (λ e. let g = runs (lawful y) s r in
      let end = subst (Halting TwoStepEnd) (last_step (lawful y) g) (step_ends y (run (pairs y) s r).state (spend (run (pairs y) s r).did r)) in record {
        pays = paid (lawful y) g;
        digits = (run_keeps y s r e).digits;
        state = λ z. (run_keeps y s r e).state;
        stop = inl end;
        ended = λ z. end;
        steps = omega (arith, every.few_steps (lawful y) g);
      })
      (λ n e. record { pays = nothing_pays r; digits = tt; state = λ z. absurd (omega (arith, z, e)); stop = inr (by n e (two_refusal_number y s)); ended = λ z. absurd (omega (arith, z, e)); steps = omega arith })
    where
      y : Setting
      y = setting a b

      r : Supply
      r = two_words xs ys room

      by : (n : ℕ) → two_refusal y s ≡ suc n → (two_refusal y s ≡ 0) ⊎ RefusalNumber (two_refusal y s) → RefusalNumber (suc n)
      by n e (inl z) = absurd (omega (arith, z, e))
      by n e (inr k) = subst RefusalNumber e k

module _ (a b : System) (s : TwoState) (xs ys out : List ℕ) where
  pub in_range : TwoAnswerInRange a b s xs ys out (two_run a b s xs ys out)
  unfolding two_run
  in_range =
      let q = two_course a b s xs ys (length out) in
      let c = course_in_range a b s xs ys (length out) in
      record {
        taken_x = (within c.pays).0;
        taken_y = (within c.pays).1;
        written = c.pays.room;
        room = length_written q.did.digits out c.pays.room;
        digits = λ p h. rw (List·getD-append q.did.digits (drop (length q.did.digits) out) 0 p h) (every_at (λ d. d < b.count) q.did.digits p c.digits h);
        unwritten = behind_unchanged q.did.digits out;
        stop = c.stop;
        ended = c.ended;
        state = c.state;
      }

  -- "Bytes of the output beyond the written ones are unchanged"
  pub written_only : let r = two_run a b s xs ys out in drop r.answer.written.0 r.output ≡ drop r.answer.written.0 out
  written_only = in_range.unwritten

  -- where nothing is refused a run is its steps; and where something is, "it then answers the number, counts 0 and 0, the state as handed in, and an untouched output"
  pub run_accepted : two_refusal (setting a b) s ≡ 0 → two_run a b s xs ys out ≡ two_steps_of (setting a b) s xs ys out
  unfolding two_run two_course two_steps_of
  run_accepted e = ap (λ (q : Course TwoState Stop). leaves q out) (accepted_run (pairs (setting a b)) Refused (two_refusal (setting a b)) s (two_words xs ys (length out)) e)

  pub refused_untouched : (two_refusal (setting a b) s ≡ 0 → ⊥) → two_run a b s xs ys out ≡ leaves (stopped (Refused (two_refusal (setting a b) s)) s) out
  unfolding two_run two_course
  refused_untouched f = by (two_refusal (setting a b) s) refl
    where
      by : (n : ℕ) → two_refusal (setting a b) s ≡ n → two_run a b s xs ys out ≡ leaves (stopped (Refused n) s) out
      by zero e = absurd (f e)
      by (suc n) e = ap (λ (q : Course TwoState Stop). leaves q out) (refused_run (pairs (setting a b)) Refused (two_refusal (setting a b)) s (two_words xs ys (length out)) n e)

  pub few_steps : let r = (two_run a b s xs ys out).answer in two_run_steps a b s xs ys out ≤ 2 * r.x.0 + 2 * r.y.0 + r.written.0 + 1 + held_two s
  unfolding two_run
  few_steps = omega (arith, (course_in_range a b s xs ys (length out)).steps)

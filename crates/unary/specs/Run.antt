-- A run: the step, again and again, until one stops (crates/runs/specs/Run.antt); and before any step, what is judged.
use Rattle.std.specs.Prelude.{List, ◌++◌, ℕ, suc, ◌+◌, length, take, drop}
use Rattle.digits.specs.System.{System}
use Rattle.runs.specs.Supply.{written}
use Rattle.runs.specs.Run.{Course, run, judged_run}
use Rattle.states.specs.Types.{State, Stop, Refused}
use Rattle.steps.specs.Step.{Setting, setting, plain, one_word}
use Rattle.unary.specs.Types.{Answer}
use Rattle.judging.specs.Refusal.{refusal_of}

-- "A run judges .. before any step; it then answers the number, counts 0 and 0, the state as handed in, and an untouched output." What it does, before
-- the bytes of its input and so many free places for digits and for divisors: why it stopped, its state, the bytes taken, the digits given out, the
-- divisors listed.
unfoldable pub course_of : System → System → State → List ℕ → ℕ → ℕ → Course State Stop
course_of a b s input room list = judged_run (plain (setting a b)) Refused (refusal_of (setting a b)) s (one_word input room list)

-- "it is part of the run's answer with two counts and the state": bytes taken, digits written; and a third count, divisors listed
abbrev pub answered : Stop → (taken written listed : ℕ) → State → Answer
answered stop taken written listed state = record {
  stop = stop;
  taken = record { 0 = taken };
  written = record { 0 = written };
  listed = record { 0 = listed };
  state = state;
}

abbrev pub answer_of : Course State Stop → Answer
answer_of q = answered q.stop (length q.did.x) (length q.did.digits) (length q.did.divisors) q.state

-- what a run leaves: its answer, the bytes of the output, and the list. "Bytes of the output beyond the written ones are unchanged." "a run lists them
-- in a second lent buffer, one number for each step 4 or 5 made; the rest of it stays."
pub record Ran : Type 0 where
  pub answer : Answer
  pub output : List ℕ
  pub divisors : List ℕ

abbrev pub ran : Answer → List ℕ → List ℕ → Ran
ran answer output divisors = record { answer = answer; output = output; divisors = divisors }

abbrev pub leaves : Course State Stop → List ℕ → List ℕ → Ran
leaves q output divisors = ran (answer_of q) (written q.did.digits output) (written q.did.divisors divisors)

unfoldable pub run_of : System → System → State → List ℕ → List ℕ → List ℕ → Ran
run_of a b s input output divisors = leaves (course_of a b s input (length output) (length divisors)) output divisors

-- the steps alone, of a run whose systems and state are judged
unfoldable pub steps_of : Setting → State → List ℕ → List ℕ → List ℕ → Ran
steps_of y s input output divisors = leaves (run (plain y) s (one_word input (length output) (length divisors))) output divisors

-- how many steps it makes, the one that stops among them
abbrev pub run_steps : System → System → State → List ℕ → List ℕ → List ℕ → ℕ
run_steps a b s input output divisors = suc (course_of a b s input (length output) (length divisors)).steps

-- ---- one call behind another

-- the bytes that a run did not take, the room that it did not fill, and the list behind what it listed
abbrev pub untaken : List ℕ → Ran → List ℕ
untaken input r = drop r.answer.taken.0 input

abbrev pub unfilled : Ran → List ℕ
unfilled r = drop r.answer.written.0 r.output

abbrev pub unlisted : Ran → List ℕ
unlisted r = drop r.answer.listed.0 r.divisors

-- the same stop and the same state, counts 0, 0 and 0, and that room and that list as they were
abbrev pub same_stop : Ran → Ran
same_stop r = record {
  answer = answered r.answer.stop 0 0 0 r.answer.state;
  output = unfilled r;
  divisors = unlisted r;
}

-- two runs, the second into the room and the list that the first left: the counts add up, the digits and the divisors are appended, the end and the state
-- are the second's
abbrev pub followed_by : Ran → Ran → Ran
followed_by r q = record {
  answer = answered q.answer.stop
      (r.answer.taken.0 + q.answer.taken.0) (r.answer.written.0 + q.answer.written.0) (r.answer.listed.0 + q.answer.listed.0)
      q.answer.state;
  output = take r.answer.written.0 r.output ++ q.output;
  divisors = take r.answer.listed.0 r.divisors ++ q.divisors;
}

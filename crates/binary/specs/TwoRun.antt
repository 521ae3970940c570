-- A run over two words: the step, again and again, until one stops (crates/runs/specs/Run.antt); and before any step, what is judged. (document 02, T-14)
use Rattle.std.specs.Prelude.{List, ◌++◌, ℕ, suc, ◌+◌, length, take, drop}
use Rattle.digits.specs.System.{System}
use Rattle.runs.specs.Supply.{written}
use Rattle.runs.specs.Run.{Course, run, judged_run}
use Rattle.states.specs.Types.{Stop, Refused}
use Rattle.steps.specs.Step.{Setting, setting}
use Rattle.judging.specs.Refusal.{refusal_by}
use Rattle.two_states.specs.Types.{TwoState}
use Rattle.two_states.specs.TwoState.{two_state?}
use Rattle.two_steps.specs.TwoStep.{pairs, two_words}
use Rattle.binary.specs.Types.{TwoAnswer}

-- "on one input system": both words are in it. As with one word (crates/judging/specs/Refusal.antt) it is judged first, then the output system, then the
-- state, by 12: the number of the first refusal, or 0.
unfoldable pub two_refusal : Setting → TwoState → ℕ
two_refusal y s = refusal_by y (two_state? y.input.count s)

-- what a run does, before the bytes of its two words and so many free places for digits: why it stopped, its state, the bytes taken of each word, the
-- digits given out
unfoldable pub two_course : System → System → TwoState → List ℕ → List ℕ → ℕ → Course TwoState Stop
two_course a b s xs ys room = judged_run (pairs (setting a b)) Refused (two_refusal (setting a b)) s (two_words xs ys room)

-- its answer: why it stopped, three counts, taken of x, taken of y and written, and the state
abbrev pub answered : Stop → (x y written : ℕ) → TwoState → TwoAnswer
answered stop x y written state = record {
  stop = stop;
  x = record { 0 = x };
  y = record { 0 = y };
  written = record { 0 = written };
  state = state;
}

abbrev pub answer_of : Course TwoState Stop → TwoAnswer
answer_of q = answered q.stop (length q.did.x) (length q.did.y) (length q.did.digits) q.state

-- what a run leaves: its answer and the bytes of the output. "Bytes of the output beyond the written ones are unchanged."
pub record TwoRan : Type 0 where
  pub answer : TwoAnswer
  pub output : List ℕ

abbrev pub two_ran : TwoAnswer → List ℕ → TwoRan
two_ran answer output = record { answer = answer; output = output }

abbrev pub leaves : Course TwoState Stop → List ℕ → TwoRan
leaves q output = two_ran (answer_of q) (written q.did.digits output)

unfoldable pub two_run : System → System → TwoState → List ℕ → List ℕ → List ℕ → TwoRan
two_run a b s xs ys output = leaves (two_course a b s xs ys (length output)) output

-- the steps alone, of a run whose systems and state are judged
unfoldable pub two_steps_of : Setting → TwoState → List ℕ → List ℕ → List ℕ → TwoRan
two_steps_of y s xs ys output = leaves (run (pairs y) s (two_words xs ys (length output))) output

-- how many steps it makes, the one that stops among them
abbrev pub two_run_steps : System → System → TwoState → List ℕ → List ℕ → List ℕ → ℕ
two_run_steps a b s xs ys output = suc (two_course a b s xs ys (length output)).steps

-- ---- one call behind another

-- the bytes of each word that a run did not take, and the room that it did not fill
abbrev pub untaken_x : List ℕ → TwoRan → List ℕ
untaken_x xs r = drop r.answer.x.0 xs

abbrev pub untaken_y : List ℕ → TwoRan → List ℕ
untaken_y ys r = drop r.answer.y.0 ys

abbrev pub unfilled : TwoRan → List ℕ
unfilled r = drop r.answer.written.0 r.output

-- the same stop and the same state, counts 0, 0 and 0, and that room as it was
abbrev pub same_stop : TwoRan → TwoRan
same_stop r = record { answer = answered r.answer.stop 0 0 0 r.answer.state; output = unfilled r }

-- two runs, the second into the room that the first left: the counts add up, the digits are appended, the end and the state are the second's
abbrev pub followed_by : TwoRan → TwoRan → TwoRan
followed_by r q = record {
  answer = answered q.answer.stop
      (r.answer.x.0 + q.answer.x.0) (r.answer.y.0 + q.answer.y.0) (r.answer.written.0 + q.answer.written.0)
      q.answer.state;
  output = take r.answer.written.0 r.output ++ q.output;
}

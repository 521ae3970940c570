-- The range of what a run over two words answers, and of the bytes that it leaves: "each number it answers inside its stated range, those of a refused state
-- handed back apart". The theorem `in_range` (proofs/TwoRuns.antt) proves it of every run.
use Rattle.std.specs.Prelude.{◌≡◌, false, List, ◌⊎◌, ℕ, ◌≤◌, ◌<◌, length, get_or, drop}
use Rattle.digits.specs.System.{System}
use Rattle.states.specs.Types.{Stop}
use Rattle.states.specs.State.{end_number, refused?}
use Rattle.steps.specs.Step.{setting}
use Rattle.judging.specs.Refusal.{RefusalNumber}
use Rattle.two_states.specs.Types.{TwoState}
use Rattle.two_states.specs.TwoState.{TwoRules}
use Rattle.binary.specs.TwoRun.{TwoRan, two_refusal}

-- the ends of a step over two words: 0, 20, 21 and 22, and never a refusal. (No list is lent, so there is no 15.)
abbrev pub TwoEnd : ℕ → Type 0
TwoEnd n = (n ≡ 0) ⊎ ((20 ≤ n) × (n ≤ 22))

pub record TwoStepEnd (e : Stop) : Type 0 where
  pub number : TwoEnd (end_number e)
  pub not_refused : refused? e ≡ false

pub record TwoAnswerInRange (a b : System) (s : TwoState) (xs ys out : List ℕ) (r : TwoRan) : Type 0 where
  -- bytes taken of each word, digits written
  pub taken_x : r.answer.x.0 ≤ length xs
  pub taken_y : r.answer.y.0 ≤ length ys
  pub written : r.answer.written.0 ≤ length out
  -- the output is as long as before, what was written are digits of the output system, and behind them nothing changed
  pub room : length r.output ≡ length out
  pub digits : (p : ℕ) → p < r.answer.written.0 → get_or r.output p 0 < b.count
  pub unwritten : drop r.answer.written.0 r.output ≡ drop r.answer.written.0 out
  -- an end or a refusal's number; where nothing is refused, an end, and the state keeps the rules for a state
  pub stop : TwoStepEnd r.answer.stop ⊎ RefusalNumber (end_number r.answer.stop)
  pub ended : two_refusal (setting a b) s ≡ 0 → TwoStepEnd r.answer.stop
  pub state : two_refusal (setting a b) s ≡ 0 → TwoRules a.count r.answer.state

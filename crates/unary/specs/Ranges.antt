-- The range of what a run answers, and of the bytes and numbers that it leaves: "each number it answers inside its stated range, those of a refused
-- state handed back apart". The theorem `in_range` (proofs/Runs.antt) proves it of every run.
use Rattle.std.specs.Prelude.{◌≡◌, List, ◌⊎◌, ℕ, ◌≤◌, ◌<◌, length, get_or, drop}
use Rattle.digits.specs.System.{System}
use Rattle.states.specs.Types.{State}
use Rattle.states.specs.State.{StateRules, StepEnd, end_number}
use Rattle.steps.specs.Step.{setting, DivisorNumber}
use Rattle.judging.specs.Refusal.{refusal_of, RefusalNumber}
use Rattle.unary.specs.Run.{Ran}

pub record AnswerInRange (a b : System) (s : State) (inp out list : List ℕ) (r : Ran) : Type 0 where
  -- bytes taken, digits written, divisors listed
  pub taken : r.answer.taken.0 ≤ length inp
  pub written : r.answer.written.0 ≤ length out
  pub listed : r.answer.listed.0 ≤ length list
  -- the output is as long as before, what was written are digits of the output system, and behind them nothing changed
  pub room : length r.output ≡ length out
  pub digits : (p : ℕ) → p < r.answer.written.0 → get_or r.output p 0 < b.count
  pub unwritten : drop r.answer.written.0 r.output ≡ drop r.answer.written.0 out
  -- the list too is as long as before, what was listed are divisors, and behind them nothing changed
  pub list_room : length r.divisors ≡ length list
  pub divisors : (p : ℕ) → p < r.answer.listed.0 → DivisorNumber (get_or r.divisors p 0)
  pub unlisted : drop r.answer.listed.0 r.divisors ≡ drop r.answer.listed.0 list
  -- an end, or a refusal's number; where nothing is refused, an end, and the state keeps the rules for a state
  pub stop : StepEnd r.answer.stop ⊎ RefusalNumber (end_number r.answer.stop)
  pub ended : refusal_of (setting a b) s ≡ 0 → StepEnd r.answer.stop
  pub state : refusal_of (setting a b) s ≡ 0 → StateRules a.count r.answer.state

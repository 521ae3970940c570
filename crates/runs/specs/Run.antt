-- A run: the step, again and again, until one halts. First as the list of its steps, `Runs`, and then as what is worked out, `run`; proofs/Runs.antt has
-- that they agree.
use Rattle.std.specs.Prelude.{◌≡◌, ℕ, zero, suc, ◌+◌}
use Rattle.whole.specs.Refusal.{unless_refused}
use Rattle.runs.specs.Supply.{Supply, Deed, nothing, and_then, spend}
use Rattle.runs.specs.Machine.{Outcome, goes, halts, Machine, most_steps}

-- the course of a run: why it stopped, its state there, what it did in all (so every count is a length), and how many steps it made before the one that halts
pub record Course (State Stop : Type 0) : Type 0 where
  pub stop : Stop
  pub state : State
  pub did : Deed
  pub steps : ℕ

module _ {State Stop : Type 0} where
  -- a run that makes no step
  abbrev pub stopped : Stop → State → Course State Stop
  stopped e s = record { stop = e; state = s; did = nothing; steps = 0 }

  -- a run behind n steps that did d
  abbrev pub behind : Deed → ℕ → Course State Stop → Course State Stop
  behind d n q = record { stop = q.stop; state = q.state; did = and_then d q.did; steps = q.steps + n }

  -- two runs, the second behind the first
  abbrev pub followed_by : Course State Stop → Course State Stop → Course State Stop
  followed_by q p = behind q.did q.steps p

  pub data Runs (m : Machine State Stop) : State → Supply → Course State Stop → Type 0 where
    stops : {s : State} {r : Supply} (e : Stop) → m.step s r ≡ halts e → Runs m s r (stopped e s)
    makes : {s : State} {r : Supply} {q : Course State Stop} (t : State) (d : Deed) →
        m.step s r ≡ goes t d → Runs m t (spend d r) q → Runs m s r (behind d 1 q)

  -- what follows a step; `more` is the rest of the run
  abbrev pub after : (State → Supply → Course State Stop) → State → Supply → Outcome State Stop → Course State Stop
  after more s r (goes t d) = behind d 1 (more t (spend d r))
  after more s r (halts e) = stopped e s

  -- at most k steps
  unfoldable pub run_by : Machine State Stop → ℕ → State → Supply → Course State Stop
  run_by m zero s r = stopped m.idle s
  run_by m (suc k) s r = after (run_by m k) s r (m.step s r)

  unfoldable pub run : Machine State Stop → State → Supply → Course State Stop
  run m s r = run_by m (suc (most_steps m s r)) s r

  -- A run that is judged before any step, by the number of the refusal, or 0: "it then answers the number, counts 0 and 0, the state as handed in, and
  -- an untouched output". What judges a state may look at anything else that a run is given and never changes.
  unfoldable pub judged_run : Machine State Stop → (ℕ → Stop) → (State → ℕ) → State → Supply → Course State Stop
  judged_run m refused judge s r = unless_refused (judge s) (λ n. stopped (refused n) s) (run m s r)

-- A session that is saved: its state's matrix becomes a job's matrix, and the job's word is what was not taken, behind the held digit, if there is one.
-- The job that is opened goes on as the session would.
use Rattle.std.specs.Prelude.{◌≡◌, List, [], ◌∷◌, ◌++◌, ℕ, ◌+◌, length}
use Rattle.digits.specs.System.{System}
use Rattle.states.specs.Types.{Held, None, Some, State}
use Rattle.opening.specs.Types.{Opens}
use Rattle.states.specs.State.{opened}
use Rattle.opening.specs.Opening.{open_of}
use Rattle.unary.specs.Run.{Ran, ran, answered, run_of}

abbrev pub held_bytes : Held → List ℕ
held_bytes None = []
held_bytes (Some h) = h ∷ []

-- the same run, but for so many bytes more that were taken
abbrev pub took_more : ℕ → Ran → Ran
took_more n r =
    ran (answered r.answer.stop (r.answer.taken.0 + n) r.answer.written.0 r.answer.listed.0 r.answer.state) r.output r.divisors

-- a state of which the matrix is a job's: the job opens with this very matrix, and then the run over the word that was left is the session's
pub record GoesOn (a b : System) (s : State) : Type 0 where
  pub opens : open_of s.matrix ≡ record { opening = Opens; state = opened s.matrix }
  pub runs : (word output divisors : List ℕ) →
      run_of a b (opened s.matrix) (held_bytes s.held ++ word) output divisors ≡ took_more (length (held_bytes s.held)) (run_of a b s word output divisors)

-- Each moment of a session, also between two steps of one call: after any number of steps from the opened state, each by the lines of document 01
-- (crates/steps).
--
-- The lines leave open here what a run decides: it gives out the smallest digit that fits, and absorbs only where none does. Whoever chooses otherwise
-- among the digits that fit gets the same meaning. That the steps of a run are among these is the theorem `plan_is` (proofs/Moments.antt).
use Rattle.std.specs.Prelude.{◌≡◌, List, ℕ, ◌<◌, ℤ}
use Rattle.std.proofs.Math.Option.{Option, none, some}
use Rattle.plane.specs.Plane.{image_of}
use Rattle.inclusion.specs.Inclusion.{Included}
use Rattle.digits.specs.System.{interval}
use Rattle.runs.specs.Supply.{Supply, Deed, nothing, and_then}
use Rattle.runs.specs.Machine.{goes}
use Rattle.runs.specs.Plan.{Plan, follow}
use Rattle.states.specs.Types.{None, Some, State, Stop}
use Rattle.steps.specs.Step.{Setting, load_plan, held_plan}
use Rattle.opening.specs.Types.{Opens}
use Rattle.opening.specs.Opening.{open_of}

-- a digit that may be given out where h is held: "U_b includes X·W_held"
pub record Fits (y : Setting) (s : State) (h b : ℕ) : Type 0 where
  pub digit : b < y.output.count
  pub includes : Included (image_of s.matrix (interval y.input h)) (interval y.output b)

-- a choice: none, or a digit that fits
abbrev pub Chooses : Setting → State → ℕ → Option ℕ → Type 0
Chooses y s h none = Unit {0}
Chooses y s h (some b) = Fits y s h b

-- the plans of a step: lines 1 to 3 where nothing is held, and lines 4 and 5 where h is, with any choice
pub data FreeLine (y : Setting) (s : State) : Plan State Stop → Type 0 where
  loading : s.held ≡ None → FreeLine y s (load_plan y.input.count s)
  holding : (h : ℕ) → s.held ≡ Some h → (o : Option ℕ) → Chooses y s h o → FreeLine y s (held_plan y s h o)

-- `Onward y s done t`: from the state s, by steps that did this in all, to the state t. A digit that is given out stands behind those given out before it,
-- and a divisor that is listed behind those listed before it.
pub data Onward (y : Setting) (s : State) : Deed → State → Type 0 where
  here : Onward y s nothing s
  stepped : {done d : Deed} {t u : State} {p : Plan State Stop} →
      Onward y s done t → FreeLine y t p → (supply : Supply) → follow p supply ≡ goes u d → Onward y s (and_then done d) u

-- a moment of a session that was opened for m
pub record Moment (y : Setting) (m : List ℤ) (done : Deed) (s : State) : Type 0 where
  pub opens : (open_of m).opening ≡ Opens
  pub steps : Onward y (open_of m).state done s

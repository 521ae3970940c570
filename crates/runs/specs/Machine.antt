-- What makes one step. A machine stands in a state, with a supply before it. It either halts, which says why and changes nothing, or goes on to another
-- state and does a deed, which uses up a part of the supply.
use Rattle.std.specs.Prelude.{ℕ, ◌+◌, ◌*◌, length}
use Rattle.runs.specs.Supply.{Supply, Deed}

pub data Outcome (State Stop : Type 0) : Type 0 where
  goes : State → Deed → Outcome State Stop
  halts : Stop → Outcome State Stop

-- its step, how many digits a state holds that are taken and not yet absorbed, and why a run would stop that is granted no step (no run is, so nothing
-- depends on it)
pub record Machine (State Stop : Type 0) : Type 0 where
  pub step : State → Supply → Outcome State Stop
  pub held : State → ℕ
  pub idle : Stop

module _ {State Stop : Type 0} where
  -- no more steps than these can be made before one halts: two for each byte that is there, to take and to absorb it; one for each digit that is held, and one
  -- for each place
  abbrev pub most_steps : Machine State Stop → State → Supply → ℕ
  most_steps m s r = 2 * length r.x + 2 * length r.y + r.room + m.held s

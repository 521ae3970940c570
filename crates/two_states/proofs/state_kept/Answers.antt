-- `two_states::state_kept` meets its contract: the tests of `two_state?` in their order.
use Rattle.std.proofs.Common.{arith}
use Rattle.std.proofs.lemmas.Grind.{common_steps}
use Rattle.two_states.specs.TwoState.{two_state?}
use Rattle.two_states.proofs.state_kept.Goals as goal

pub returns-then-held_below : goal.returns-then-held_below
unfolding two_state?
returns-then-held_below c = grind (arith, common_steps)

pub returns-else-held_below : goal.returns-else-held_below
unfolding two_state?
returns-else-held_below c = grind (arith, common_steps)

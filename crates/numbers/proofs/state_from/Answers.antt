-- `numbers::state_from` meets its contract: part by part.
use Rattle.numbers.specs.Numbers.{state_from}
use Rattle.std.proofs.Common.{rules}
use Rattle.numbers.proofs.state_from.Goals as goal

pub returns : goal.returns
unfolding state_from
returns c = search rules

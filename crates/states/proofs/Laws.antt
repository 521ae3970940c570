-- What the crates above may use of this one: `use Rattle.states.proofs.Laws.{..}`.

pub use Rattle.states.proofs.Rules.{cancelled_rules, held_says, says_held, one_held, step_end}
-- the definitions
pub use Rattle.states.specs.State.{HeldDigit, held_digit?, StateRules, EndNumber, StepEnd, absorbed, end_number, given, held_count, loaded, opened, refused?}
pub use Rattle.states.specs.Types.{Some, Held, InputUsed, ListFull, NoRoom, NotADigit, None, RangeLeft, Refused, State, Stop}

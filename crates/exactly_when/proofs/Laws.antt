-- What the crates above may use of this one: `use Rattle.exactly_when.proofs.Laws.{..}`.

-- the step: the digit that is chosen, the range, the five lines
pub use Rattle.exactly_when.proofs.Chosen.{chosen_exactly}
pub use Rattle.exactly_when.proofs.Leaving.{leaves_or_within, leaves_exactly}
pub use Rattle.exactly_when.proofs.StepExactly.{step_says, step_exactly}
-- the run: refused, its steps, its end, the bytes that it took
pub use Rattle.exactly_when.proofs.RefusedExactly.{passes_exactly, refused_exactly}
pub use Rattle.exactly_when.proofs.StepsRun.{steps_run}
pub use Rattle.exactly_when.proofs.EndsExactly.{ends_exactly}
pub use Rattle.exactly_when.proofs.AfterRangeLeft.{range_left_again}
pub use Rattle.exactly_when.proofs.TakenDigits.{taken_are_digits}
-- the definitions
pub use Rattle.exactly_when.specs.Lines.{Smallest, NoneFits, Choice, Leaves, given_x, absorbed_x, given_divisor, absorbed_divisor}
pub use Rattle.exactly_when.specs.Lines.{Line, no_input, no_digit, takes, no_room, giving_unlisted, giving_leaves, gives, absorbing_unlisted, absorbing_leaves, absorbs}
pub use Rattle.exactly_when.specs.Ends.{RefusedBy, input_system, output_system, state, Passes}
pub use Rattle.exactly_when.specs.Ends.{InputLeftNone, ByteNoDigit, OutputFull, GivesOrAbsorbs, ListIsFull, EntryLeaves, EndCase, RunCase, Over}

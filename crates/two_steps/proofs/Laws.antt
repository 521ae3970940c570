-- What the crates above may use of this one: `use Rattle.two_steps.proofs.Laws.{..}`.

-- the step is one of those that crates/runs speaks of
pub use Rattle.two_steps.proofs.Lawful.{lawful, steady}
-- the ways that it goes on, and what it keeps
pub use Rattle.two_steps.proofs.Ways.{chosen_below, behind_give, behind_x, behind_y, InRange, Onward, each_way, step_goes, step_halts}
pub use Rattle.two_steps.proofs.Kept.{Kept, held_below, step_keeps}
-- numbers of digits that a system hasn't got change no step
pub use Rattle.two_steps.proofs.SamePlan.{Holds, same_plan, step_holds}
-- the definitions
pub use Rattle.two_steps.specs.Made.{Follows, Ready, StaysBy, WorksWhere, WorksWith, halt, move, next_of, outcome_by, word_of}
pub use Rattle.two_steps.specs.TwoStep.{absorb, both_held, choice, give, load_by, load_x, load_y, pairs, plan_by, ranged, two_plan, two_words}
pub use Rattle.two_steps.specs.Types.{Absorb, Give, Halt, Kind, Load, Move}

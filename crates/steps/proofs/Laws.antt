-- What the crates above may use of this one: `use Rattle.steps.proofs.Laws.{..}`.

-- the step is one of those that crates/runs speaks of
pub use Rattle.steps.proofs.Lawful.{lawful, steady, step_stops}
-- what every step keeps; the chosen digit
pub use Rattle.steps.proofs.Kept.{chosen_below, chosen_fits, Every, every_both, every_at, Below, Kept, step_keeps}
-- numbers of digits that a system hasn't got change no step
pub use Rattle.steps.proofs.SamePlan.{same_plan, step_holds}
-- lines 4 and 5, where they cancel
pub use Rattle.steps.proofs.Cancelled.{each_cancelled, stop_cancelled}
-- what a step's product is cancelled by, as a word
pub use Rattle.steps.proofs.ByDeterminant.{cast_ok, size_held}
-- what a step lists, and where it does not look at the list; where it finds the list full
pub use Rattle.steps.proofs.Listing.{Lists, step_lists, any_list}
pub use Rattle.steps.proofs.FullList.{Why, step_why}
-- the definitions
pub use Rattle.steps.specs.Made.{Follows, HeldRecognised, OfR, Ready, Recognised, StaysBy, Usable, WorksWhere, WorksWith, outcome_by}
pub use Rattle.steps.specs.Step.{DivisorNumber, Setting, absorbed_matrix, cancelled_plan, chosen, emit_plan, given_matrix, held_plan, one_word, plain, plan, plan_by, setting}
pub use Rattle.steps.specs.Types.{Absorb, Give, Halt, Kind, Load, Move}

-- What the crates above may use of this one: `use Rattle.unary.proofs.Laws.{..}`.

-- runs
pub use Rattle.unary.proofs.Runs.{accepted_again, CourseInRange, course_in_range, in_range, written_only, run_accepted, refused_untouched, few_steps, few_steps_free}
pub use Rattle.unary.proofs.Again.{stops_again, cut_anywhere}
pub use Rattle.unary.proofs.SameRun.{same_course, same_run}
pub use Rattle.unary.proofs.BothOrders.{same_runs}
-- its list
pub use Rattle.unary.proofs.DivisorList.{listed_counts, list_long_enough, more_list}
-- the definitions
pub use Rattle.unary.specs.Run.{Ran, ran}
pub use Rattle.unary.specs.Ranges.{AnswerInRange}
unfoldable pub use Rattle.unary.specs.Run.{course_of, run_of, steps_of}
pub use Rattle.unary.specs.Types.{Answer}

-- What the crates above may use of this one: `use Rattle.binary.proofs.Laws.{..}`.

-- what is judged before any step
pub use Rattle.binary.proofs.TwoJudging.{two_accepted, two_refusal_number, two_ready}
-- runs
pub use Rattle.binary.proofs.TwoRuns.{accepted_again, CourseInRange, course_in_range, in_range, written_only, run_accepted, refused_untouched, few_steps}
pub use Rattle.binary.proofs.TwoAgain.{stops_again, cut_anywhere}
pub use Rattle.binary.proofs.TwoSameRun.{same_refusal, same_course, same_run}
-- the definitions
pub use Rattle.binary.specs.TwoRun.{TwoRan, answer_of, answered, followed_by, leaves, same_stop, two_ran, two_run_steps, unfilled, untaken_x, untaken_y}
unfoldable pub use Rattle.binary.specs.TwoRun.{two_course, two_refusal, two_run, two_steps_of}
pub use Rattle.binary.specs.TwoRanges.{TwoAnswerInRange, TwoEnd, TwoStepEnd}
pub use Rattle.binary.specs.Types.{TwoAnswer}

-- What other crates may use of the theory of runs.
-- deeds, and lists that are written
pub use Rattle.runs.proofs.Spending.{within, and_nothing, and_then_lem, spend_nothing, nothing_pays}
pub use Rattle.whole.proofs.Laws.{behind_unchanged, front_written, length_written, written_both, room_left, written_twice}
-- what holds of every run, and of every judged run
pub use Rattle.runs.proofs.Runs.{does, granted, runs, only, paid, keeps, few_steps, last_step, stops_again, cut_anywhere, same_longer, same_runs, Always}
pub use Rattle.runs.proofs.Judged.{accepted_run, refused_run, either, judged_stops_again, judged_cut_anywhere}
-- machines that go by plans
pub use Rattle.runs.proofs.Plans.{follow_each, each_test, follow_halts, stop_test, Cheap, planned_lawful, planned_steady, steady_always}
-- loops of code that make the steps of a run
pub use Rattle.runs.proofs.Loop.{Took, took_none, took_front, Wrote, wrote_none, wrote_one, Lent, supply, done, ahead, steps_left, Here, here_first, goes_to, Ended, ends_with}
-- the definitions
pub use Rattle.runs.specs.Machine.{Outcome, goes, halts, most_steps}
pub use Rattle.runs.specs.Plan.{Plan, byte_x, byte_y, digit, divisor, gave, first, gave_by, go, listed, stop, took_x, took_y, with_byte}
unfoldable pub use Rattle.runs.specs.Plan.{follow}
pub use Rattle.runs.specs.Run.{Course, after, stopped}
unfoldable pub use Rattle.runs.specs.Run.{judged_run, run, run_by}
pub use Rattle.runs.specs.Supply.{Deed, Supply, and_then, nothing, spend, written}
pub use Rattle.runs.specs.Asked.{Going, Halting, Lawful, Steady, Pays, cost, join, longer}
unfoldable pub use Rattle.runs.specs.Asked.{Each, EachStop}

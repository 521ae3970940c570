-- What the crates above may use of this one.
pub use Rattle.answers.proofs.Settled.{largest_reached, printed_settled, filled_settled}
pub use Rattle.answers.proofs.Answers.{admit_in_range, open_in_range, read_in_range, write_in_range}
pub use Rattle.answers.proofs.Calls.{sled_admit_in_range, sled_system_in_range, sled_columns_in_range, sled_rows_in_range, sled_open_in_range, sled_run_in_range, sled_read_in_range, sled_write_in_range}
pub use Rattle.answers.proofs.TwoCalls.{sled_open_two_in_range, sled_run_two_in_range}
-- the program's list, and a plug-in's that is long enough, never fill
pub use Rattle.answers.proofs.NeverFull.{program_never_15, sled_list_long_enough}
-- the numbers of contents that are not written
pub use Rattle.answers.proofs.Sections.{contents_number, contents_above}
-- a buffer with room for the largest file is never too short
pub use Rattle.answers.proofs.Calls.{sled_write_room}
-- no second answer fits
pub use Rattle.answers.proofs.OneAnswer.{one_system, one_admission, one_number, one_refusal_number, one_opening_number, one_end_number, one_judgement, one_opening, one_opened, one_refusal, one_refused, one_systems_refused, one_run, one_two_run, one_two_opening, one_reading, one_read, one_write, one_written, one_response}
pub use Rattle.answers.proofs.OneAnswer.{one_sled_admit, one_sled_system, one_sled_columns, one_sled_rows, one_sled_open, one_sled_run, one_sled_read, one_sled_write, one_sled_open_two, one_sled_run_two}

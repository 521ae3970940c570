-- What the crates above may use of this one.
pub use Rattle.round_trips.proofs.Outcomes.{write_says, said_written, write_refuses_exactly, IsLayout, written_is_layout, writes_only, room_enough}
pub use Rattle.round_trips.proofs.RoundTrips.{written_reads, read_writes, read_again, refused_as_read, refused_never_reads}
pub use Rattle.round_trips.proofs.GoesOn.{saved_goes_on}
-- the definitions
pub use Rattle.round_trips.specs.Writes.{Handed, InBytes, Outcome, Unwritable, WriteRefuses, as_read, cleared, refuses, saves, too_short, unwritable}
pub use Rattle.round_trips.specs.Again.{read_by, read_contents}
pub use Rattle.round_trips.specs.GoesOn.{GoesOn, held_bytes, took_more}

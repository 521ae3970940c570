-- Document 02, T-01, as definitions. (The layout and its sections: crates/job_sections/specs.)
-- Types has the type of its answer, Writing what `write` answers and what it leaves in the buffer. (What that means: crates/round_trips/specs.)
pub mod Types
pub mod Writing

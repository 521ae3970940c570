-- Document 01, "Job file" and "Numbers of refusal", as definitions. (The layout and its sections: crates/job_sections/specs. What `write` answers:
-- crates/job_writing/specs.)
--   Reading    the job file as four sections, and what `read` answers
--   Reads      when a file reads as a job
--   Refuses    when a file is refused by a number in a section
pub mod Types
pub mod Reading
pub mod Reads
pub mod Refuses

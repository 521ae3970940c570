-- Document 01, "Job file": the bytes of a job, and its sections, as definitions.
--   Types      the type of src/
--   Layout     the bytes of a job, and the rules for its contents
--   Sections   the three kinds of section: when each number is given, and how their bytes are judged
--   Job        the job file as four sections, to be read and to be written, and how long it is
--   InSection  what is answered about a section, with the section beside a refusal
pub mod Types
pub mod Layout
pub mod Sections
pub mod Job
pub mod InSection

-- The sections of a job file. Laws is the front door. The folders prove the functions of src/lib.rt.
--   Numbers      numbers in bytes: what is written is read back, and what is read is written back
--   SameBytes    a system's bytes are those of its rows
--   Judgements   what admission and opening say
--   Lawful       the three kinds of section, and so the job file, keep the laws of sections (crate `sections`), read and written
--   Sizes        how many bytes a job file has
--   InSection    what is answered about a section, with the section beside a refusal
pub mod Laws
mod Numbers
mod SameBytes
mod Judgements
mod Lawful
mod Sizes
mod InSection

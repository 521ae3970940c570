-- What writing a section of a job file leaves. (Its bytes: crates/job_sections/specs/Layout.antt.)
pub mod Filled

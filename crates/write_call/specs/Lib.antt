-- Writing a job file from lent numbers.
pub mod WriteCall

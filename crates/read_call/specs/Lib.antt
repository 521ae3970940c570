-- Reading a job file into lent numbers.
pub mod ReadCall

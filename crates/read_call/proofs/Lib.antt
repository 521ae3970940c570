-- Reading a job file into lent numbers: the front door is Laws.
pub mod Laws

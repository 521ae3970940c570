-- The sections of a job file, written. Laws is the front door. The folders prove the functions of src/lib.rt.
--   Filling   what is filled behind what: bytes, a section's bytes behind its count, one section behind another
--   Numbers   numbers one behind the other, as a loop writes them; two's complement
--   Rows      the row of a digit, out of the columns, and one row more
pub mod Laws
mod Filling
mod Numbers
mod Rows

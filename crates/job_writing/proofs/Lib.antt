-- Writing a job file. Laws is the front door. The folders prove the functions of src/lib.rt.
--   Judged        what is judged, number by number, as the code goes
--   WrittenFile   what is judged is so; and what `write` leaves, one law for each way
pub mod Laws
mod Judged
mod WrittenFile

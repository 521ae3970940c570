-- The folders prove the functions of src/lib.rt. What the crates above use is in Laws; what holds of the answers: crates/answers.
pub mod Laws

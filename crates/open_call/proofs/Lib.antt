-- The folder proves the function of src/lib.rt. What the crates above use is in Laws.
pub mod Laws

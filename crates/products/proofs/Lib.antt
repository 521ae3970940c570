-- The folders prove the functions of src/lib.rt, each by its name; Words has what they share. What holds of products and images is in crates/plane.
pub mod Laws
mod Words

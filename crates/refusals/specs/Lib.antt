-- The refusals of documents 01 and 02.
--   Types      the type of src/
--   Numbers    the number of each, and 0 where nothing is refused
pub mod Types
pub mod Numbers

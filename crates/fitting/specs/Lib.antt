-- The digit that may be given out.
--   Types      the type of src/
--   FirstFit   the smallest digit that fits
pub mod Types
pub mod FirstFit

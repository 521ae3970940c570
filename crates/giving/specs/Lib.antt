-- The digit that may be given out, of two words (document 02, T-14).
--   MayGive   the test, and the smallest digit that passes it
pub mod MayGive

-- Turning and reflecting.
--   SymmetrySays   what they say of points: `turned_says`, `reflected_says`
--   SameDigits     rows of one and the same digit, and what turning and reflecting make of them
--   Sizes          for the functions: how large the numbers get, and that there is something to cancel
--   Tested         what the functions ask, of rows that are written out
pub mod Laws
mod SymmetrySays
mod SameDigits
mod Sizes
mod Tested

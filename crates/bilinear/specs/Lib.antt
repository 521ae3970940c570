-- Eight numbers on two points (document 02, T-14).
--   Types    the type of src/
--   Form     what the eight numbers make of two points, and what giving and absorbing make of the eight numbers
--   Lowest   their greatest common divisor, cancelling, and their range
pub mod Types
pub mod Form
pub mod Lowest

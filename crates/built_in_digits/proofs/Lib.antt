-- The digits of R and of B as constants: what the functions' proofs share, and what steps use. Laws is the front door.
--   OneDigit       a function of a digit, by the digit
--   WrittenOut     a search whose loop is written out
--   NarrowDigits   every interval of B is narrower than a right angle
--   DigitsOfR      every digit of R is a digit, and has determinant 1
pub mod Laws
mod OneDigit
mod WrittenOut
mod NarrowDigits
mod DigitsOfR

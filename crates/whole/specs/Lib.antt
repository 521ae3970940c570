-- What the contracts of `whole`, and of the crates above it, say of whole numbers. Signs, order and the quotient toward 0 are the kit's (`lib.IntN`,
-- `lib.Signed`). Range: numbers within a bound. Divisor: greatest common divisors. First: the first number that passes a test. Refusal: "0 passes, else
-- the number decides". Written: a lent list into which something was written. Worked: a determinant for the examples of proofs/Worked.antt, which no
-- contract uses.
pub mod Range
pub mod Divisor
pub mod First
pub mod Refusal
pub mod Written
pub mod Worked

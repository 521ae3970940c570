-- Text, as theorems.
--   Laws       what other crates use
--   Written    this, then that; and what is left to be written
--   Decimals   decimal digits, one at a time; what is written of a number says that number
--   Lines      a line of numbers, field by field
pub mod Laws
mod Written
mod Decimals
mod Lines

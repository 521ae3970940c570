-- Which systems are admitted, as theorems: what each answer of `admit` says, and the laws that the crates above use (Laws).
--   Numbers                             only "admitted" has the number 0
--   RowSays, AdmittedSays               each refusal number is given exactly when document 01's sentence holds
--   SameDigits                          the same digits are judged alike, in rows and in columns, whatever is kept for digits that a system hasn't got
--   BuiltIn                             R, D and B are admitted
pub mod Laws
mod Numbers
mod RowSays
mod AdmittedSays
mod SameDigits
mod BuiltIn

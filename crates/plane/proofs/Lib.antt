-- Document 01, "Points, matrices, intervals", as theorems of its definitions, and what the functions' proofs share.
--   Identities, SameSign              the algebra: determinants, products, pseudoinverses, multiples
--   Moves, Points, Ends               a matrix with determinant above 0 keeps points, intervals, insides and closed intervals; multiples change nothing
--   Mixtures                          the points inside an interval are mixtures of its ends
--   Below                             "So (1/0, 1/−1) runs from infinity to −1"
--   Cancelling                        `cancel_says`: lowest terms, the same matrix up to a positive factor, and the only one such
--   Divides                           `divisor_divides`: the divisor of a step divides the determinant of the step's digit
--   MachineNumbers, Ranges            machine words, ranges of results: for the functions here and in the crates above
--   Laws                              all that the crates above use
pub mod Laws
mod SameSign
mod Identities
mod Moves
mod Points
mod Ends
mod Mixtures
mod Below
mod Cancelling
mod Divides
mod MachineNumbers
mod Ranges

-- The mathematics of whole numbers that every proof of this library stands on: a map.
--
--   identities      Ring → Polynomial → Law                            `law` proves one in a line
--   order           Order → Sign → Certificate → Search → Claim → Cases  `claim` proves in a line that facts entail another; Cases has the laws by name
--   machine words   Test, Range → Machine                              what a test says, ranges, what fits a word, casts
--   divisors        Divisor                                            greatest common divisors, lowest terms
--   searches        First                                              the first number that passes a test, as a loop looks for it
--   judgements      Refusal                                            0 passes, else the number decides
--   lists           Lists                                              copied number by number; the same where each number is
--                   Written                                            a lent list into which something was written
--   to learn from   Worked                                             an example of each way to state a law or a claim
--   for others      Laws                                               all that the crates above use
--
-- Begin with Worked. The provers need not be believed: `law` and `claim` are theorems, proved by what stands left of them, and the Search is not even that, since what it
-- finds is tested. This is why they stand here and not in specs/, which holds only what a contract means.
-- The folder +gcd proves the one function of src/lib.rt that the check does not prove alone; `+` marks one that calls itself.
pub mod Laws
mod Base
mod Ring
mod Polynomial
mod Law
mod Order
mod Sign
mod Certificate
mod Search
mod Claim
mod Cases
mod Test
mod Range
mod Machine
mod Divisor
mod First
mod Refusal
mod Lists
mod Written
mod Worked

-- Digit systems, as theorems: what the crates above may say of a system's numbers without knowing where they stand.
--   Places       where each number stands in columns, and in rows
--   BothOrders   each system in rows has exactly one in columns, with the same digits
--   SystemB      B's rows by symmetry are document 01's: `b_by_symmetry`
pub mod Laws
mod Places
mod BothOrders
mod SystemB

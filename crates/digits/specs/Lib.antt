-- Document 01, "A digit system", as definitions.
--   Types     a system in memory
--   System    a system, by its digits' transformations and intervals
--   Orders    where a system's numbers stand: in rows, and in memory in columns
--   BuiltIn   the three systems that are built in
--   SystemB   what makes system B: row 0 and two laws
pub mod Types
pub mod System
pub mod Orders
pub mod BuiltIn
pub mod SystemB

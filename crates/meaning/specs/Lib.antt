-- Demand 3, "The meaning", as definitions: what digits name, what a session is, and what is said of it.
--   Names     what digits name; the absorbed digits
--   Session   a session, and the sentences of demand 3
--   Moments   each moment of a session, also between two steps: any number of steps by the lines of document 01, with any choice among the digits that
--             fit
pub mod Names
pub mod Session
pub mod Moments

-- Demand 3 for runs over two words, as definitions: what a session is, and what is said of it. (What digits name: crates/meaning/specs/Names.antt.)
pub mod TwoSession

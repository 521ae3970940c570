-- The tests of the table's claims and what they say (Same, Tests), and the theorem (Worked).
pub mod Same
pub mod Tests
pub mod Worked

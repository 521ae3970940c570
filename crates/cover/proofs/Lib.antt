-- The test of the cover says that every point is covered, and hands over a point where not.
--   CoverTests             what the parts of the test say
--   CoverFull, Greatest    where the test holds, no point is left out
--   CoverGap               where it fails, here is a point that is
--   CoverSays              `cover_says`, both together; one digit never covers
--   SameCover              what is kept for digits that a system hasn't got changes nothing
pub mod Laws
mod Greatest
mod CoverTests
mod CoverGap
mod CoverFull
mod CoverSays
mod SameCover

-- Inclusion: why the test that document 01 gives says what its sentence says, and that the code asks it.
--   InclusionTests, InclusionSigns    what the parts of the test mean, and the theorem in four plain numbers
--   Inclusion                         `included_says` and `says_included`: the test is inclusion, with a witness where it fails; closed goes to closed
--   OtherTests                        where the tests of documents 000 and 001 are wrong, exactly
--   Narrow                            what is included in an interval narrower than a right angle is narrower too
--   ThreeSigns                        the test by the signs of three determinants, for `included`
--   Signs                             "in the closed interval" by the signs of two, for the cover test of admission
--   Laws                              all that the crates above use
pub mod Laws
mod Inclusion
mod InclusionSigns
mod InclusionTests
mod OtherTests
mod Narrow
mod ThreeSigns
mod Signs

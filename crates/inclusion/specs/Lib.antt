-- Document 01 on inclusion, as definitions. OtherTests: the tests of documents 000 and 001. Wide: a test of intervals that are not narrower than a right
-- angle.
pub mod Inclusion
pub mod OtherTests
pub mod Wide

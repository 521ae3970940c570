-- What the crates above may use of this one: `use Rattle.inclusion.proofs.Laws.{..}`.

-- the parts of the test
pub use Rattle.inclusion.proofs.InclusionTests.{closed_says, says_closed, not_closed, not_closed_says, same_zero, zero_same, same_says, says_same}
-- the inclusion theorem
pub use Rattle.inclusion.proofs.Inclusion.{included_says, says_included, not_included_says, closed_included, Escaped, not_included}
-- the tests of documents 000 and 001
pub use Rattle.inclusion.proofs.OtherTests.{ends_alone_exactly, ends_alone_enough, ends_alone_wrong, shut_out_exactly, never_too_much, equal_shut_out, P1-shut-out}
-- what is included in an interval narrower than a right angle is narrower too
pub use Rattle.inclusion.proofs.Narrow.{narrow, wide_not_included}
-- "in the closed interval" by the signs of two determinants
pub use Rattle.inclusion.proofs.Signs.{closed_from, below_times, above_times}
-- the definitions
unfoldable pub use Rattle.inclusion.specs.Inclusion.{closed?, included?, same?, sides_of}
pub use Rattle.inclusion.specs.Wide.{apart?}
unfoldable pub use Rattle.inclusion.specs.Wide.{wide?}
pub use Rattle.inclusion.specs.OtherTests.{test000, test001, WronglyPasses, WronglyFails, SameEndPoints, GoesRound}

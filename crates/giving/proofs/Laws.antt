-- What the crates above may use of this one: `use Rattle.giving.proofs.Laws.{..}`.

-- "written in the two ends of U_c"
pub use Rattle.giving.proofs.Mixed.{in_the_ends}
-- a digit that may be given out takes in what two intervals are sent to
pub use Rattle.giving.proofs.GivenSays.{given_says, sent_into}
-- the search
pub use Rattle.giving.proofs.FirstGiven.{gives?, FirstGives, giving_exactly, giving_says, same_giving, nought_gives_none, coefficients_decide}
-- the four images as two products, and their ranges
pub use Rattle.giving.proofs.FourImages.{ends_of, images_form, images_form_lem, images_within}
-- the definitions
pub use Rattle.giving.specs.MayGive.{SentInto, coefficients, columns_of_form, none_above?, none_below?, nought?, one_sided?, some_nought?}
unfoldable pub use Rattle.giving.specs.MayGive.{all_coefficients, giving_of, images_of, may_give?}

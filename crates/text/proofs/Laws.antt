-- What crates above may use of `text`.
-- this, then that; the same text under another name; the whole buffer
pub use Rattle.text.proofs.Written.{and_then_lem, wrote_as, at_most, from_front, over_front}
-- field by field: what is left of a text
pub use Rattle.text.proofs.Written.{Left, left_less, left_none}
-- what is written of a number says that number, with no 0 in front
pub use Rattle.text.proofs.Decimals.{decimal_says, no_0_in_front}
-- the definitions
unfoldable pub use Rattle.text.specs.Number.{signed_text}
pub use Rattle.text.specs.Wrote.{Wrote}

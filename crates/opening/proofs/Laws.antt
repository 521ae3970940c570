-- What the crates above may use of this one: `use Rattle.opening.proofs.Laws.{..}`.

pub use Rattle.opening.proofs.OpeningSays.{opening_says, opening_0, one_case, opens, hands_out, opened_rules}
-- the definitions
pub use Rattle.opening.specs.Opening.{OpeningCase, no_matrix, opening_number, opening_of, refused_start, start_of, started}
unfoldable pub use Rattle.opening.specs.Opening.{open_of}
pub use Rattle.opening.specs.Types.{Err, MatrixNotAbove, Ok, Opening, Opens, OutOfRange, Start}

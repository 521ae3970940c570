-- What the crates above may use.

-- four lengths that passed their test
pub use Rattle.numbers.proofs.Lengths.{four_lengths}
-- numbers that are written unless something is refused
pub use Rattle.numbers.proofs.Written.{written_0, refused_by}
-- a list of known length, place by place
pub use Rattle.numbers.proofs.Lists.{known}
-- what is written is read back as what it was written for
pub use Rattle.numbers.proofs.ReadBack.{Byte, held_back, state_back}
-- the definitions
pub use Rattle.numbers.specs.Numbers.{lent_system, wrong_length, wrote}
unfoldable pub use Rattle.numbers.specs.Numbers.{state_after, state_numbers, handed_out}

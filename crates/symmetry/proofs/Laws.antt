-- What the crates above may use of this one.
-- what turning and reflecting say of points
pub use Rattle.symmetry.proofs.SymmetrySays.{turned_says, reflected_says}
-- rows of one and the same digit
pub use Rattle.symmetry.proofs.SameDigits.{digit_refl, digit_sym, digit_trans, digit_signs, digit_turned, digit_reflected, digit_inside}
-- what the functions ask, of rows that are written out
pub use Rattle.symmetry.proofs.Tested.{small?, turnable?, small_says, turnable_says}
-- the definitions
pub use Rattle.symmetry.specs.Row.{transformation_in, interval_in, SmallRow, Turnable}
pub use Rattle.symmetry.specs.Symmetry.{rotation, mirror}
unfoldable pub use Rattle.symmetry.specs.Symmetry.{turned, reflected}
pub use Rattle.symmetry.specs.Says.{TurnedSays, ReflectedSays, SameDigit}

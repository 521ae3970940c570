-- What the crates above may use of this one.
-- the numbers of digits that are there
pub use Rattle.digits.proofs.Places.{digit_there, columns_length, columns_at, rows_length, rows_at, number_in_rows, tabulated_length, tabulated_at}
-- from rows to columns and back: the same system
pub use Rattle.digits.proofs.BothOrders.{one_in_columns, rows_again, columns_again, same_in_columns}
-- the same digits, whatever stands beside them
pub use Rattle.digits.proofs.Places.{same_numbers}
-- from the numbers of each digit to all numbers
pub use Rattle.digits.proofs.Places.{numbers_near}
-- system B by symmetry
pub use Rattle.digits.proofs.SystemB.{b_by_symmetry}
-- the definitions
pub use Rattle.digits.specs.BuiltIn.{joined, minus, row, rows_d, rows_r, table_of}
unfoldable pub use Rattle.digits.specs.BuiltIn.{rows_b, stored}
pub use Rattle.digits.specs.SystemB.{BySymmetry, Symmetric, printed_b, row_at}
pub use Rattle.digits.specs.System.{SameDigits, Small, System, interval, transformation}
pub use Rattle.digits.specs.Orders.{Columns, DigitThere, InColumns, as_written, by_column, column_place, interval_at, lent, lent_system, row_place, rows_of, system_of, transformation_at}
unfoldable pub use Rattle.digits.specs.Orders.{columns_of, four_by, interval_by, rows_in, tabulated, transformation_by}
pub use Rattle.digits.specs.Types.{StoredSystem}

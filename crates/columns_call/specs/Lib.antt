-- A system turned from rows into columns, and back, over lent numbers.
pub mod ColumnsCall

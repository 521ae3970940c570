-- A run over lent numbers.
pub mod RunCall

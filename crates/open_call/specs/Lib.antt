-- Opening over lent numbers.
pub mod OpenCall

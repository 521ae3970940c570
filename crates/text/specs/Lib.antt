-- Text, as definitions.
--   Text     a text that is written out
--   Wrote    where a text stands in a buffer
--   Number   how a number is written
--   Line     how a line of fields is written
pub mod Text
pub mod Wrote
pub mod Number
pub mod Line

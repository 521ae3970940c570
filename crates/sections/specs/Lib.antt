-- Files of sections, one behind the other.
--   Types      the type of src/
--   Bytes      lists of bytes; "2 bytes, low byte first"
--   Section    a section behind its count: its bytes, and when each number is given, of bytes that are read and of a value that is to be written
--   File       sections one behind the other, and nothing behind the last
--   Written    a file's value that is to be written: when nothing of it is refused, and what else
--   Answered   what code that reads a section answers
pub mod Types
pub mod Bytes
pub mod Section
pub mod File
pub mod Written
pub mod Answered

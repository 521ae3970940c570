-- What holds of every section, and of every file of them. Laws is the front door.
--   Bytes, Counted    two bytes, low byte first; a section's count is there, is right, and as many bytes are there
--   Sections          of one section: what its answer says, and back
--   Judged            of a value that is to be written: what its number says, and that the reader gives the same
--   Files             sections one behind the other: read exactly, settled by their first bytes
--   WrittenFiles      the same of a file's value that is to be written: judged exactly, and read as it was judged
--   Answers           for code that reads section after section
-- The folders prove the functions of src/lib.rt.
pub mod Laws
mod Bytes
mod Counted
mod Sections
mod Judged
mod Files
mod WrittenFiles
mod Answers

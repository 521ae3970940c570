-- A system turned from rows into columns, and back: the front door is Laws.
--   Turned        what the numbers are, where nothing is refused
--   UndoEachOther   the two calls undo each other
pub mod Laws
mod Turned
mod UndoEachOther

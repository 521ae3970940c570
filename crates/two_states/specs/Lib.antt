-- Document 02, T-14: the state of a run over two words, its rules and its builders.
pub mod Types
pub mod TwoState

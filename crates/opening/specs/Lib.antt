-- Document 01, "The step": opening, as definitions.
pub mod Types
pub mod Opening

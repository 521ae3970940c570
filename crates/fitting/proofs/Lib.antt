-- The search for the digit that may be given out. FirstFit: what it says. Laws is the front door.
pub mod Laws
mod FirstFit

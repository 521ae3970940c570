-- The rules for a state. Laws is the front door.
pub mod Laws
mod Rules

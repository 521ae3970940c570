-- Opening, as theorems: each answer is given exactly in its case, and the opened state keeps the rules (OpeningSays). Laws is the front door.
pub mod Laws
mod OpeningSays

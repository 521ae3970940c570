-- Demand 3, "The meaning", as theorems. Laws is the front door. In the order in which they rest on each other: what the product and the numbers do when a digit is
-- appended (Products); what one step does to them (OneStep); what holds from any state to any later one (Moments), and demand 3's sentences read off it (Claims); the
-- sentences of sessions, and the bridge to the code (Sessions); between any two moments of a session (ToCome); worked cases of the premise (Premise) and of sessions
-- (WorkedSession).
mod Products
mod OneStep
mod Moments
mod Claims
mod Sessions
mod ToCome
mod Premise
mod WorkedSession
pub mod Laws

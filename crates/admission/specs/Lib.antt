-- Document 01's refusals 3 and 6 to 10 and document 02's 18, as definitions: Admitted says what is asked of a system, Admission how it is
-- judged. Named has two systems that are refused.
pub mod Types
pub mod Admission
pub mod Admitted
pub mod Named

-- Document 01's examples P1 to P12 and its other runs: what a row of the table claims, and the table.
pub mod Claims
pub mod Table

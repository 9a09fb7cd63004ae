-- ---- to read beside document 01: "Settings and their kinds", and what is answered of them
pub mod Settings
pub mod Asked
pub mod Given
-- ---- the laws
pub mod Absent
pub mod GivenHolds
-- ---- for proofs only: what the rows of the table of places give
pub mod Rows

-- ---- for proofs only: what the rows and the codes of the table of places give
pub mod Rows
pub mod Codes

-- The laws: a refused file is refused by every entry point that reads it
pub mod Refused
-- For the proofs only: what is answered by a row of the table of places
pub mod Places

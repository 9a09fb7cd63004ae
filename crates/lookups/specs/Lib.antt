-- What to read beside document 01: the string lookups, and worked ones
pub mod Lookups
pub mod Cases
-- The laws: a refused file is refused by every lookup
pub mod Refused
-- For the proofs only: what the code's private steps answer
pub mod ByKey

-- What to read beside document 01: "File names"
pub mod Names
pub mod Dialects
pub mod Cases
-- The laws; what only the proofs need is in proofs/
pub mod Laws

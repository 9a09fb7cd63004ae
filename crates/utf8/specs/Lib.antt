-- What to read beside document 01: "UTF-8 is the Unicode standard's well-formed UTF-8", said twice
pub mod Utf8
pub mod WellFormed
pub mod Cases
-- The laws
pub mod WellFormedLaws
pub mod Laws
pub mod ByteLaws
-- For the proofs only: what the code's private steps answer
pub mod Due

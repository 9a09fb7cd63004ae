-- What to read beside document 01: "The join record", and which records are well formed
pub mod Record
pub mod Formed
-- The laws: a well-formed record and its struct say the same; worked cases
pub mod Laws
pub mod Cases
-- For the proofs only: the same of each part
pub mod PartLaws

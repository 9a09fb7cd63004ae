-- What to read beside document 01: what each function for C answers, the three demands, and what they say of these functions
pub mod Calls
pub mod Demands
pub mod Exports
-- What a caller sees of an answer, and zeros, which the contracts and the demands cite
pub mod Telling
pub mod Zeros
-- Document 01's twelve cases; the proofs of the demands are in proofs/, where must-fail edits of the definitions are refused by them
pub mod Cases

-- What to read beside document 01: "The written iwd file"; and beside request 2026-01: how long it can be, and which records reach that;
-- worked cases
pub mod Written
pub mod GreatestLengths
pub mod Largest
pub mod Cases
-- For the proofs only: the same texts by groups and rows, and the parts of a record as the code has them. The laws are in proofs/,
-- where must-fail edits of the definitions are refused by them
pub mod Texts
pub mod RecordParts

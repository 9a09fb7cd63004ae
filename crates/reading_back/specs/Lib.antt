-- What to read beside document 01: what is answered of a record that is written and read back
pub mod Back
-- The law: what is the same is equal
pub mod BackLaws

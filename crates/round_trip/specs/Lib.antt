-- The laws: what is written reads back as the record, and as its struct
pub mod RoundTrip
pub mod Structs
-- For the proofs only: groups of settings by names, keys and values alone, what a reading of them gives, and what is read of
-- each part of a record
pub mod Blocks
pub mod Readings
pub mod RowLookups
pub mod RowValues
pub mod GoodGroups
pub mod PartsRead

-- ---- to read beside document 01: its keys by name
pub mod Keys
-- ---- the laws
pub mod KeyLaws
-- ---- for proofs only: the table of places, what a row keeps of a key, and what state and table hold of the groups before a line
pub mod Store
pub mod KeySlots
pub mod History
pub mod Holds
pub mod ValueCodes

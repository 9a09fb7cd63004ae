-- What to read beside the header: the answers and the settings in the C boundary's structs
pub mod Answers
pub mod Settings
-- The laws: what is handed out as a record is written as that record
pub mod Laws

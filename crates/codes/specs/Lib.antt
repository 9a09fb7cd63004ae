-- What to read beside the header: the codes of the C boundary
pub mod Codes
-- The laws: a case comes back from its code, and a code from its case
pub mod Laws

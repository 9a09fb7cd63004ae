-- What to read: what a writer leaves in a buffer
pub mod Put
pub mod Texts
-- The laws; what only the proofs need is in proofs/
pub mod Laws

-- What to read beside document 01 and request 2026-02: "escapes in strings", said twice, and how strings are written
pub mod Escapes
pub mod StringRules
pub mod Cases
-- The laws
pub mod StringRuleLaws
pub mod Laws
pub mod TextLaws
-- For the proofs only: what the code's private steps answer
pub mod Letters

-- What to read beside document 01: addresses, masks and lists of addresses, said twice, and how they are written
pub mod Addresses
pub mod AddressRules
pub mod Cases
-- The laws
pub mod SplitLaws
pub mod AddressRuleLaws
pub mod Laws
pub mod Sizes
pub mod Written
pub mod MaskRuleLaws
pub mod Printable
-- For the proofs only: what the code answers at a place of a text
pub mod Fields

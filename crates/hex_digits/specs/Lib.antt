-- What to read beside document 01: "Hex digits may be either case.", said twice
pub mod Hex
pub mod HexRules
-- The laws; what only the proofs need is in proofs/
pub mod HexRuleLaws
pub mod Laws
pub mod Printable

-- What to read beside document 01: MAC, PreSharedKey and SSID of "Settings and their kinds", said twice
pub mod HexValues
pub mod HexValueRules
-- The laws; what only the proofs need is in proofs/
pub mod HexValueRuleLaws
pub mod Laws
pub mod Printable

-- What to read beside document 01: "ConnMan IPv4 is ..", said twice
pub mod ConnmanIpv4
pub mod Ipv4Rules
-- The laws; what only the proofs need is in proofs/
pub mod Ipv4RuleLaws
pub mod Laws
pub mod Printable

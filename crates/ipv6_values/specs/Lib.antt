-- What to read beside request 2026-03: ConnMan's IPv6, and iwd's Address with its length, said twice
pub mod Ipv6Values
pub mod Ipv6ValueRules
-- The laws; what only the proofs need is in proofs/
pub mod Ipv6ValueRuleLaws
pub mod Laws
pub mod Written
pub mod Printable
-- The definition laid out in the code's type
pub mod Layout

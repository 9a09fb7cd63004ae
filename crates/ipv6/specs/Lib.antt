-- What to read beside RFC 4291, section 2.2, and RFC 5952, section 4: each said twice
pub mod Ipv6
pub mod Ipv6Rules
pub mod Recommended
pub mod Cases
-- The laws
pub mod HalfLaws
pub mod Ipv6RuleLaws
pub mod Laws
pub mod GroupTexts
pub mod GroupLaws
pub mod Runs
pub mod Shapes
pub mod Written
pub mod RecommendedLaws
pub mod Printable
-- For the proofs only: what the code's private steps answer
pub mod Places

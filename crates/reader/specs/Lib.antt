-- ---- for proofs only: what the answers on a line, on a header, and each step say
pub mod Says
pub mod Headings
pub mod Steps

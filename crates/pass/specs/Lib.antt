-- ---- for proofs only: what one pass answers (what rules `Reading` says), and what it leaves in the table of places
pub mod Pass

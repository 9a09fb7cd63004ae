-- What to read beside document 01: the move, demand 3, and worked moves
pub mod Moves
pub mod Demand
pub mod Cases
-- The laws: the earliest line, and a faulty Passphrase line; those that a must-fail edit of the move breaks are in proofs/
pub mod Earliest
pub mod Saturday
-- For the proofs only: what the row of a service says of its lines, and the buffers
pub mod Places

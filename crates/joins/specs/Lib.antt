-- What to read beside document 01: "The join record", worked records, and a faulty Passphrase line
pub mod Joins
pub mod Cases
pub mod Saturday
-- The laws: what a record answered rests on, that a Passphrase line is never lost, what Security means, and that every record answered is well formed
pub mod Joining
pub mod SaturdayHolds
pub mod Security
pub mod Answered
-- For the proofs only: the definitions laid out in the code's types, and what the rows of the table of places say
pub mod Answers
pub mod Places

-- ---- for proofs only: the rules over a service and over a file by the table of places, and what the end of a file says
pub mod Closing
pub mod FileRule
pub mod Ending

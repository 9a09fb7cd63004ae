-- What to read beside document 01: the number line, with its cases, the form of a name line, and what is kept of the input
pub mod Number
pub mod Cases
pub mod Forms
pub mod Input
-- The laws: a form is complete exactly of a ConnMan name, and what is kept is enough
pub mod Laws
pub mod Enough
-- For the proofs only: what each step of keeping does
pub mod Steps

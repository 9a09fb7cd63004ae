-- What to read beside document 01: what the program answers to its input
pub mod Answers
-- The laws: what is kept of the input is enough
pub mod Enough

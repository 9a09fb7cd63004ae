-- What to read beside document 01: what the program answers to its input
pub mod Answers
-- The laws: a long name line is answered by its form
pub mod Enough

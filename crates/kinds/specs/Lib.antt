-- What to read beside document 01: "Settings and their kinds", said twice; worked cases
pub mod Kinds
pub mod Typed
pub mod ValueRules
pub mod Cases
-- For the proofs only: the definitions laid out in the code's types, and what its private steps answer. The laws are in proofs/,
-- where must-fail edits of the definitions are refused by them
pub mod Answers
pub mod Judging

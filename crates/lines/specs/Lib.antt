-- What to read beside document 01: "Lines, alike in both", said twice, and how lines are written
pub mod Lines
pub mod LineRules
pub mod Rendering
pub mod Cases
-- The laws
pub mod LineRuleLaws
pub mod Laws
-- For the proofs only: a line by the places in it, as the code answers it
pub mod Forms

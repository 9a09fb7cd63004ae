-- What to read beside document 01: "Two records are equal when they agree in every place, unused ones included."
pub mod Same
-- The laws
pub mod SameLaws

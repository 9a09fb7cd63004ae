pub mod Fronts
pub mod NumberSoFar
pub mod Parts

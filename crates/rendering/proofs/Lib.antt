pub mod ExactSizes
pub mod Bounds
pub mod Three
pub mod Four
pub mod RowTexts
pub mod GroupTexts

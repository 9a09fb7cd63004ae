pub mod TypedArrays
pub mod ReadBack

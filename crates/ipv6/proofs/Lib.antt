pub mod Parsing
pub mod Seeking
pub mod Siding
pub mod Spreading
pub mod Putting

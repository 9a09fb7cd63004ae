pub mod Counts
pub mod Answering

pub mod Reading
pub mod Runs
pub mod Octets
pub mod Finding
pub mod Masking
pub mod Listing
pub mod Putting

pub mod Filling
pub mod Gathering

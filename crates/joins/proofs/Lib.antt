pub mod Choosing
pub mod Assembling

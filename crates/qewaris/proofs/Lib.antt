pub mod Exporting
pub mod Seeing

-- The version; what the contracts cite stands in the crates below, and what is demanded of them all in demands
pub mod Version

pub mod Slots
pub mod RowLaws
pub mod RowKeys
pub mod Backwards
pub mod GroupRows
pub mod Values
pub mod Seeking

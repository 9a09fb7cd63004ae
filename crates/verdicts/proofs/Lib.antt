pub mod RowRule
pub mod ServicesFault
pub mod FileFault
pub mod WholeFile

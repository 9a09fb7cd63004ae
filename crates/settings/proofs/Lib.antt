pub mod Rowwise
pub mod IwdFile
pub mod ServiceFile

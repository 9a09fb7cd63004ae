pub mod Walking
pub mod NameKinds
pub mod Answers
pub mod Asking

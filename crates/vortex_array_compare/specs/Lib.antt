pub mod Compared
pub mod inner

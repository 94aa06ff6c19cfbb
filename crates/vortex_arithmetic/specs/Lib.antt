pub mod Operated
pub mod Scaled

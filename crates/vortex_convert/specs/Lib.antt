pub mod Conversions
pub mod Refused
pub mod Kept

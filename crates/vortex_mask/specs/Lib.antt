pub mod Bits
pub mod Truths
pub mod Shown

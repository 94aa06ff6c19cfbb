pub mod Masked
pub mod Steps
pub mod Walked
pub mod Viewed
pub mod Selected

pub mod Walked
pub mod Runs

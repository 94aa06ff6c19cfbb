pub mod Edges
pub mod LastRow
pub mod Limits
pub mod Steps
pub mod Sums

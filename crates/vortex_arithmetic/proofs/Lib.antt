pub mod Ranges
pub mod Powers
pub mod Fractions
pub mod Exact
mod Ends

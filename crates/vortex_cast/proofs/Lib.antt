pub mod CastFits
pub mod Ranges
pub mod Leaves
pub mod Stored
pub mod Inner

pub mod Insides
pub mod Leaves
pub mod Walks
pub mod Ordered
pub mod Fed
pub mod Fitting

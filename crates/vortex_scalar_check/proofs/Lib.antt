pub mod Fitting
pub mod Operating

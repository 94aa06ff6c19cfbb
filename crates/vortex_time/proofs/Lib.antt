pub mod Texts
pub mod Ranges
pub mod Units
pub mod Written

pub mod Widths
pub mod Lists

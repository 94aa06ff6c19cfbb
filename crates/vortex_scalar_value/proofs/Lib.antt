mod Options
pub mod Found
pub mod Listed
pub mod Nesting
pub mod Put
pub mod Read
pub mod Standing
pub mod Written
pub mod Joining
pub mod ValueTexts

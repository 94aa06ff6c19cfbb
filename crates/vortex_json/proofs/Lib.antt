pub mod Taken
pub mod Found
pub mod Limits
pub mod Listed
pub mod Again

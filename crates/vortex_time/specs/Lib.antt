pub mod ErrorNumber
pub mod Answers
pub mod Units
pub mod Metadata
pub mod Moments
pub mod Terms
pub mod Jiff
pub mod inner

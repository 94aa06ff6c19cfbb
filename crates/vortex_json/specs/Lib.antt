pub mod Written
pub mod Found
pub mod Answers
pub mod inner

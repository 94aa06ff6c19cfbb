pub mod Answers
pub mod Numbers
pub mod Texts
pub mod Constant
pub mod Selected
pub mod OffsetTest

pub mod Cast
pub mod Answers
pub mod inner

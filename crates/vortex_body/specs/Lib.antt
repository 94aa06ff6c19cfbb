pub mod Node
pub mod Body
pub mod Reading
pub mod Answers
pub mod inner
pub mod Worked

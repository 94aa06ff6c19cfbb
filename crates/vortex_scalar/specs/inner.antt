pub mod Kept
pub mod Parts
pub mod HeldValues
pub mod PartAnswers

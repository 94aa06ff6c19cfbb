pub mod Heads
pub mod Begun
pub mod Came
pub mod Pieces

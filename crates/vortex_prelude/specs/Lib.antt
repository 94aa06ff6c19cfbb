pub mod Chain
pub mod Absent
pub mod Elements

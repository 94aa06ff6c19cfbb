pub mod Extent
pub mod Shape
pub mod SlotBytes
pub mod TreeCode
pub mod ItemFalls

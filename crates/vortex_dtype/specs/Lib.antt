pub mod DTypes
pub mod Writing
pub mod Paths
pub mod PathLaws
pub mod PathSets
pub mod Masks
pub mod View
pub mod ViewFields

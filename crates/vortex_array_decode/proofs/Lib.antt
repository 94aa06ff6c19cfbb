pub mod Nodes
pub mod Refusals
pub mod FieldArrays
pub mod Childless
pub mod Agreements

pub mod NestedRows
pub mod OffsetTests
pub mod NestedMade
pub mod MadeLeaves

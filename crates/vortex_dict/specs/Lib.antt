pub mod Encoding
pub mod KeyRows
pub mod Limits
pub mod Slices
pub mod Widths
pub mod inner

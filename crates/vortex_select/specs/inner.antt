pub mod Decoding
pub mod Views
pub mod Prefixes
pub mod Stops
pub mod LayoutLaws
pub mod KeptRows

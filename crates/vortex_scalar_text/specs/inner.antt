pub mod Sizes
pub mod Defaults
pub mod FieldTexts
pub mod Shown

pub mod Size
pub mod MomentText
pub mod TemporalText
pub mod ScalarText
pub mod Widths
pub mod inner

pub mod CanonicalRows
pub mod RepeatedRows

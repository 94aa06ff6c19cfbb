pub mod ErrorNumber
pub mod Nullable
pub mod Decimals
pub mod Names
pub mod Selectors
pub mod inner

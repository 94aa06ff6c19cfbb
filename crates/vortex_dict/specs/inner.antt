pub mod DictionaryCode
pub mod Kept
pub mod Numbers
pub mod Step

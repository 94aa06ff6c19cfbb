pub mod ErrorNumber
pub mod Hash
pub mod Keys
pub mod Places
pub mod Refusals
pub mod Slots
pub mod Table

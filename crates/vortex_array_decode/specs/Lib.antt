pub mod Decoded
pub mod Agreement
pub mod WorkedAgreement
pub mod inner

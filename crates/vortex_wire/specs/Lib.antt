pub mod ErrorNumber
pub mod Varint
pub mod Field
pub mod Message
pub mod Metadata
pub mod Inside
pub mod Finds

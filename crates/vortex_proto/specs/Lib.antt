pub mod TypeMessage
pub mod TypeBytes
pub mod PathMessage
pub mod Reading
pub mod Views

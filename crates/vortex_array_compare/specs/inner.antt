pub mod ComparedRows
pub mod AlikeRows

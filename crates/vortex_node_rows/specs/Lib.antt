pub mod Encodings
pub mod Pieces
pub mod Buffers
pub mod Leaves
pub mod RowsOf
pub mod ByteNode
pub mod Worked

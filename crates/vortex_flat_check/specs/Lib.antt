pub mod WorkedBuffer

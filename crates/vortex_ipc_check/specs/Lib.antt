pub mod WorkedHeaders

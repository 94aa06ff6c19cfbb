pub mod Buffer
pub mod ErrorNumber

pub mod ErrorNumber
pub mod Format
pub mod PType
pub mod WholeKind
pub mod inner

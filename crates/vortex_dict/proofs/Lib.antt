pub mod BytesLemmas
pub mod EncodingLemmas
pub mod LawLemmas
pub mod NumberLemmas
pub mod SizeLemmas
pub mod SliceLemmas
pub mod ValueLemmas
pub mod WidthLemmas

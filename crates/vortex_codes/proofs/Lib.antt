pub mod KeyLemmas
pub mod NullLemmas
pub mod OrderLemmas
pub mod PlaceLemmas
pub mod SlotLemmas
pub mod TableLemmas

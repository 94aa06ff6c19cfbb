pub mod ComparedTruths
pub mod AlikeRows
pub mod ComparedPlaces
pub mod ComparedLists
pub mod ComparedNumbers
pub mod ComparedTexts

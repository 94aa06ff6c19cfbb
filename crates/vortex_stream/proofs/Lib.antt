pub mod Written
pub mod StreamLemmas
pub mod CallLemmas
pub mod ReadingLemmas

pub mod Picked
pub mod Masks
pub mod Spans
pub mod PickedPlaces

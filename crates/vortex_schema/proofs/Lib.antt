pub mod Found
pub mod InPlace
pub mod Laid
pub mod Legal
pub mod OneType
pub mod Options
pub mod Standing
pub mod Walking

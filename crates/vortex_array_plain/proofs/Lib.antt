pub mod ValueFits
pub mod PlainContents
pub mod ValueLists
pub mod ValueRefusals
pub mod PlainHeld
pub mod PlainLeaves

pub mod RowOf
pub mod RowLaws
pub mod HashInput
pub mod Inside
pub mod HeldRow

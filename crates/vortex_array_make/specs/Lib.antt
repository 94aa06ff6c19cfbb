pub mod MadeLeaves
pub mod MadeNested

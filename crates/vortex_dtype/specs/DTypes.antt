-- What a contract sees of a type: `term_of`, of vortex_types.
pub use Rattle.vortex_types.specs.DTypes.{term_of}

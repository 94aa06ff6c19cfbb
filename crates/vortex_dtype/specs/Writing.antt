-- What is written for a type: `Writes`, of vortex_types.
pub use Rattle.vortex_types.specs.Writing.{Writes}

-- A type in a buffer, as the bytes and its place.
--     View, view_term        the bytes and the place; the type that stands there
--     StandsAt, IsReadAs     those of vortex_types
use Rattle.std.specs.Prelude.{ℕ, List, unwrap_or}
use Rattle.vortex_terms.specs.Term.{Term, null}
use Rattle.vortex_schema.specs.Reading.{bounded_type_at}
pub use Rattle.vortex_types.specs.Standing.{StandsAt, IsReadAs}

pub record View : Type 0 where
  pub bytes : List ℕ
  pub place : ℕ

-- the type that stands there
abbrev pub view_term : View → Term
view_term v = unwrap_or (bounded_type_at v.bytes v.place) null

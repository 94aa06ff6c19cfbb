-- The code's own record of where a table lies.
use Rattle.vortex_flat.specs.declared.shape.Shape.{Shape}
use Rattle.vortex_flat.specs.Table.{TableShape}

-- what a record of the code says of a table
abbrev pub shape_of : Shape → TableShape
shape_of s = record {
  place = s.place;
  vtable = s.vtable;
  vtable_size = s.vtable_size;
  inline_size = s.inline_size;
}

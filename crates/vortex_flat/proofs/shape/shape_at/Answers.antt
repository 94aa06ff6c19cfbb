use Rattle.std.proofs.Common.{refl}
use Rattle.vortex_flat.specs.inner.Shape.{shape_of}
use Rattle.vortex_flat.proofs.TableLemmas.{table_here, table_unfit}
use Rattle.vortex_flat.proofs.shape.shape_at.Goals as goal

pub returns-then-lies_within : goal.returns-then-lies_within
returns-then-lies_within c =
    table_here c.args.bytes.now (shape_of (record { place = c.args.place; vtable = c.in-Some.vtable; vtable_size = c.in_ok-vtable_size.vtable_size; inline_size = c.in_ok-inline_size.inline_size })) c.in_ok-back.back
    (record { back = c.in_ok-back.ensures; vtable = c.in-Some.ensures; vtable_size = c.in_ok-vtable_size.ensures; inline_size = c.in_ok-inline_size.ensures }) c.if-lies_within.ensures

pub returns-else-lies_within : goal.returns-else-lies_within
returns-else-lies_within c = (
  refl,
  table_unfit c.args.bytes.now (shape_of (record { place = c.args.place; vtable = c.in-Some.vtable; vtable_size = c.in_ok-vtable_size.vtable_size; inline_size = c.in_ok-inline_size.inline_size })) c.in_ok-back.back
      (record { back = c.in_ok-back.ensures; vtable = c.in-Some.ensures; vtable_size = c.in_ok-vtable_size.ensures; inline_size = c.in_ok-inline_size.ensures }) c.if-lies_within.ensures,
)

use Rattle.std.proofs.Common.{◌∙◌}
use Rattle.vortex_schema.specs.Views.{fields_of}
use Rattle.vortex_dtype.proofs.Selected.{found_within}
use Rattle.vortex_dtype.proofs.viewed_fields.placed_type.Goals as goal

pub dtype-requires : goal.dtype-requires
dtype-requires c =
    found_within (fields_of c.args.fields.now) c.args.name.now c.in-Some.i (c.in-Some.ensures ∙ c.requires c.args.name.now)

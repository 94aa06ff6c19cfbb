use Rattle.std.proofs.Common.{◌∙◌, ap, sym}
use Rattle.vortex_node_rows.specs.RowsOf.{Validity}
use Rattle.vortex_array_data.specs.inner.Picked.{shown_places}
use Rattle.vortex_array_data.proofs.ShownRows.{shown_all}
use Rattle.vortex_array_data.proofs.pick_parts.valid_places.Goals as goal

pub returns-in_ok-from_slice-in-None : goal.returns-in_ok-from_slice-in-None
returns-in_ok-from_slice-in-None c =
    c.in_ok-from_slice-in-None.ensures.items ∙ shown_all c.args.places.now
    ∙ ap (λ (v : Validity). shown_places v c.args.places.now) (sym c.in-None.is)

use Rattle.std.proofs.Common.{◌∙◌, length, sym, ap}
use Rattle.vortex_array_data.specs.Column.{Column}
use Rattle.vortex_array_compare.proofs.ComparedTruths.{null_known}
use Rattle.vortex_array_compare.proofs.compare.known.Goals as goal

pub returns-then-is_null-clause-known : goal.returns-then-is_null-clause-known
returns-then-is_null-clause-known c =
    c.new_false.ensures
    ∙ null_known c.args.scalar.now.row c.args.array.now.rows c.array.inside.len (sym c.if-is_null.ensures)
    (c.array.invariant.count ∙ ap (λ (x : Column). length x.rows) c.array.view_is)

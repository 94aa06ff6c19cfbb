use Rattle.std.proofs.Common.{length, map, ap}
use Rattle.std.proofs.lemmas.List.{length-map}
use Rattle.vortex_names.specs.Nullable.{is_nullable}
use Rattle.vortex_terms.specs.Term.{boolean}
use Rattle.vortex_terms.specs.Row.{truth_row}
use Rattle.vortex_array_data.proofs.MaskedRows.{rows_fit, rows_many, truths_fit}
use Rattle.vortex_array_make.proofs.made_leaves.bools.Goals as goal

pub made-requires-clause-count : goal.made-requires-clause-count
made-requires-clause-count c =
    rows_many (length c.args.values.now) (is_nullable c.args.nullability) c.args.validity
    (map truth_row c.in_ok-truths.field-0) (map truth_row c.args.values.now) c.requires.mask
    (ap (map truth_row) c.in_ok-truths.ensures) (length-map c.args.values.now truth_row)

pub made-requires-clause-fit : goal.made-requires-clause-fit
made-requires-clause-fit c =
    rows_fit (boolean (is_nullable c.args.nullability)) (length c.args.values.now) (is_nullable c.args.nullability)
    c.args.validity (map truth_row c.in_ok-truths.field-0) (map truth_row c.args.values.now) (λ z. z) c.requires.mask
    (ap (map truth_row) c.in_ok-truths.ensures) (truths_fit (is_nullable c.args.nullability) c.args.values.now)

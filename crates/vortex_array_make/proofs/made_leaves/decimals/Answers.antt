use Rattle.std.proofs.Common.{length, map}
use Rattle.std.proofs.lemmas.List.{length-map}
use Rattle.vortex_names.specs.Nullable.{is_nullable}
use Rattle.vortex_terms.specs.Term.{decimal}
use Rattle.vortex_terms.specs.Row.{whole_row}
use Rattle.vortex_leaves.specs.Numbers.{number_rows}
use Rattle.vortex_array_data.proofs.MaskedRows.{rows_fit, rows_many}
use Rattle.vortex_array_make.proofs.MadeLeaves.{decimals_fit}
use Rattle.vortex_array_make.proofs.made_leaves.decimals.Goals as goal

pub made-requires-clause-count : goal.made-requires-clause-count
made-requires-clause-count g c =
    rows_many (length c.args.values.now) (is_nullable c.args.nullability) c.args.validity
    (number_rows c.in_ok-from_values.field-0) (map (λ x. whole_row (g.T.WholeNumber.number x)) c.args.values.now)
    c.requires.mask c.in_ok-from_values.ensures.numbers.rows
    (length-map c.args.values.now (λ x. whole_row (g.T.WholeNumber.number x)))

pub made-requires-clause-fit : goal.made-requires-clause-fit
made-requires-clause-fit g c =
    rows_fit (decimal c.args.dtype.precision c.args.dtype.scale (is_nullable c.args.nullability))
    (length c.args.values.now) (is_nullable c.args.nullability) c.args.validity
    (number_rows c.in_ok-from_values.field-0) (map (λ x. whole_row (g.T.WholeNumber.number x)) c.args.values.now)
    (λ z. z) c.requires.mask c.in_ok-from_values.ensures.numbers.rows
    (decimals_fit g.T.NativeDecimalType.VALUES_TYPE c.args.dtype.precision c.args.dtype.scale
    (is_nullable c.args.nullability) g.T.WholeNumber.number c.args.values.now c.in_ok-from_values.ensures.fit)

use Rattle.std.proofs.Common.{◌∙◌, map, refl, sym}
use Rattle.std.proofs.lemmas.List.{length-map}
use Rattle.vortex_names.specs.Nullable.{is_nullable}
use Rattle.vortex_terms.specs.Term.{boolean}
use Rattle.vortex_terms.specs.Row.{truth_row}
use Rattle.vortex_array_data.proofs.MaskedRows.{rows_fit, rows_many, truths_fit}
use Rattle.vortex_array_compare.proofs.compare.held_truths.Goals as goal

pub kept_mask-validity-requires : goal.kept_mask-validity-requires
kept_mask-validity-requires c = record { long = c.requires.long ∙ sym c.len-len.ensures; bare = c.requires.bare }

pub made-requires-clause-count : goal.made-requires-clause-count
made-requires-clause-count c =
    rows_many c.len-len.result (is_nullable c.args.nullability) c.kept_mask-validity.result (map truth_row c.args.truths)
    (map truth_row c.args.truths) c.kept_mask-validity.ensures.mask refl
    (length-map c.args.truths truth_row ∙ sym c.len-len.ensures)

pub made-requires-clause-fit : goal.made-requires-clause-fit
made-requires-clause-fit c =
    rows_fit (boolean (is_nullable c.args.nullability)) c.len-len.result (is_nullable c.args.nullability)
    c.kept_mask-validity.result (map truth_row c.args.truths) (map truth_row c.args.truths) (λ z. z)
    c.kept_mask-validity.ensures.mask refl (truths_fit (is_nullable c.args.nullability) c.args.truths)

pub returns-clause-rows : goal.returns-clause-rows
returns-clause-rows c =
    c.made.ensures.rows
    ∙ c.kept_mask-validity.ensures.shown (map truth_row c.args.truths)
    (length-map c.args.truths truth_row ∙ sym c.len-len.ensures)

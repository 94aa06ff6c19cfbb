use Rattle.std.proofs.Common.{rules, ◌≡◌, ◌≤◌, ◌∙◌, List, ℕ, true, length, map, sym, ap}
use Rattle.vortex_terms.specs.Row.{bytes_row}
use Rattle.vortex_terms.specs.FromColumns.{pieces}
use Rattle.vortex_types.specs.DTypes.{term_of}
use Rattle.vortex_node_rows.specs.declared.encoding.Encoding.TheVariants as encoding
use Rattle.vortex_node_rows.specs.RowsOf.{most_rows}
use Rattle.vortex_leaves.specs.OffsetTest.{offsets_part}
use Rattle.vortex_array_make.specs.MadeLeaves.{leaf_column, piece_count, texts_refusal}
use Rattle.vortex_array_make.proofs.MadeLeaves.{part_of, pieces_kept, refused, text_bytes, texts_made, texts_masked}
use Rattle.vortex_array_make.proofs.made_texts.VarBinArray.try_new.Goals as goal

pub returns-in_err-validity : goal.returns-in_err-validity
returns-in_err-validity c =
    let many : c.saturating_sub-n.result ≡ piece_count c.args.offsets.items = search rules in
    let few : c.saturating_sub-n.result ≤ most_rows = search rules in
    let part : offsets_part c.args.offsets.items (length c.args.bytes.bytes) ≡ true =
    part_of c.offsets_part.result c.args.offsets.items c.deref.result.now c.len-2.result c.args.bytes.bytes
    c.offsets_part.ensures c.deref.ensures.value c.len-2.ensures c.if-not-offsets_part.false in
    refused c.from_residual-in_err-validity.result c.in_err-validity.field-0.0
    (texts_refusal c.args.offsets.items c.args.bytes.bytes (term_of c.args.dtype) c.args.validity)
    (leaf_column (term_of c.args.dtype) encoding.VarBin c.args.validity
    (map bytes_row (pieces c.args.offsets.items c.args.bytes.bytes))) c.from_residual-in_err-validity.ensures.1
    (texts_masked c.args.offsets.items c.args.bytes.bytes (term_of c.args.dtype) c.args.validity
    c.saturating_sub-n.result c.is_nullable.result c.in_err-validity.field-0.0 many few part c.is_nullable.ensures
    c.in_err-validity.ensures)

pub made-requires-clause-count : goal.made-requires-clause-count
made-requires-clause-count c =
    let many : c.saturating_sub-n.result ≡ piece_count c.args.offsets.items = search rules in
    let part : offsets_part c.args.offsets.items (length c.args.bytes.bytes) ≡ true =
    part_of c.offsets_part.result c.args.offsets.items c.deref.result.now c.len-2.result c.args.bytes.bytes
    c.offsets_part.ensures c.deref.ensures.value c.len-2.ensures c.if-not-offsets_part.false in
    (pieces_kept (term_of c.args.dtype) c.saturating_sub-n.result c.is_nullable.result c.args.validity
    c.in_ok-validity.validity c.args.offsets.items c.args.bytes.bytes c.in_ok-texts.texts
    (c.in_ok-texts.ensures ∙ ap (λ (os : List ℕ). text_bytes os c.args.bytes.bytes) c.deref-2.ensures.value) many part
    c.law.ensures.below c.is_nullable.ensures c.in_ok-validity.ensures
    (sym c.do_fit-fits.ensures ∙ c.if-not-fits.false)).count

pub made-requires-clause-fit : goal.made-requires-clause-fit
made-requires-clause-fit c =
    let many : c.saturating_sub-n.result ≡ piece_count c.args.offsets.items = search rules in
    let part : offsets_part c.args.offsets.items (length c.args.bytes.bytes) ≡ true =
    part_of c.offsets_part.result c.args.offsets.items c.deref.result.now c.len-2.result c.args.bytes.bytes
    c.offsets_part.ensures c.deref.ensures.value c.len-2.ensures c.if-not-offsets_part.false in
    (pieces_kept (term_of c.args.dtype) c.saturating_sub-n.result c.is_nullable.result c.args.validity
    c.in_ok-validity.validity c.args.offsets.items c.args.bytes.bytes c.in_ok-texts.texts
    (c.in_ok-texts.ensures ∙ ap (λ (os : List ℕ). text_bytes os c.args.bytes.bytes) c.deref-2.ensures.value) many part
    c.law.ensures.below c.is_nullable.ensures c.in_ok-validity.ensures
    (sym c.do_fit-fits.ensures ∙ c.if-not-fits.false)).fit

pub returns : goal.returns
returns c =
    let many : c.saturating_sub-n.result ≡ piece_count c.args.offsets.items = search rules in
    let few : c.saturating_sub-n.result ≤ most_rows = search rules in
    let part : offsets_part c.args.offsets.items (length c.args.bytes.bytes) ≡ true =
    part_of c.offsets_part.result c.args.offsets.items c.deref.result.now c.len-2.result c.args.bytes.bytes
    c.offsets_part.ensures c.deref.ensures.value c.len-2.ensures c.if-not-offsets_part.false in
    texts_made c.made.result c.args.offsets.items c.args.bytes.bytes (term_of c.args.dtype) c.args.validity
    c.in_ok-validity.validity c.saturating_sub-n.result c.is_nullable.result c.in_ok-texts.texts many few part
    c.is_nullable.ensures c.in_ok-validity.ensures
    (c.in_ok-texts.ensures ∙ ap (λ (os : List ℕ). text_bytes os c.args.bytes.bytes) c.deref-2.ensures.value)
    (sym c.do_fit-fits.ensures ∙ c.if-not-fits.false) c.made.ensures.dtype c.made.ensures.rows c.made.ensures.node

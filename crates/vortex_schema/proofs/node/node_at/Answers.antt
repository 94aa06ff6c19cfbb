use Rattle.std.proofs.Common.{sym, ap, ◌∙◌}
use Rattle.std.specs.Prelude.{is_some}
use Rattle.std.proofs.lemmas.Grind.{get_or_default_zero}
use Rattle.vortex_terms.specs.Types.{IsBytes}
use Rattle.vortex_schema.specs.Reading.{bounded_type_at, dtype_at, whole}
use Rattle.vortex_schema.specs.inner.InPlace.{found_in, in_place}
use Rattle.vortex_schema.proofs.InPlace.{known_dtype, known_type}
use Rattle.vortex_schema.proofs.Options.{not_none}
use Rattle.vortex_schema.proofs.node.node_at.Goals as goal

pub dtype_node-requires-clause-stands : goal.dtype_node-requires-clause-stands
dtype_node-requires-clause-stands c =
    let b = c.args.bytes.now in
    let bytes : IsBytes b = λ k d within. rw (get_or_default_zero b k d within) (c.type_inv.bytes k).fits in
    ap (λ p. is_some (dtype_at b (in_place b) whole p)) c.table_of.ensures.place ∙ known_dtype b c.args.place bytes c.requires

pub unreachable-requires : goal.unreachable-requires
unreachable-requires c =
    let b = c.args.bytes.now in
    let bytes : IsBytes b = λ k d within. rw (get_or_default_zero b k d within) (c.type_inv.bytes k).fits in
    let none = sym (known_type b c.args.place bytes c.requires) ∙ ap (λ p. found_in (dtype_at b (in_place b) whole p)) (sym c.table_of.ensures.place) ∙ (c.in-Err.ensures).1 in
    not_none (bounded_type_at b c.args.place) none c.requires

pub returns : goal.returns
returns c =
    let b = c.args.bytes.now in
    let bytes : IsBytes b = λ k d within. rw (get_or_default_zero b k d within) (c.type_inv.bytes k).fits in
    sym (known_type b c.args.place bytes c.requires) ∙ ap (λ p. found_in (dtype_at b (in_place b) whole p)) (sym c.table_of.ensures.place) ∙ c.in-Ok.ensures

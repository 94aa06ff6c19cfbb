use Rattle.std.proofs.Common.{◌≡◌, ℕ, List, [], ◌∷◌, ◌++◌, IfOk, subst, ap, ◌∙◌, arith}
use Rattle.vortex_terms.specs.Term.{Term, Fields}
use Rattle.vortex_terms.specs.Weight.{field-lighter}
use Rattle.vortex_schema.specs.Views.{fields_of, term_at}
use Rattle.vortex_types.proofs.ReadTypes.{name_taken, type_taken, as_many, all_fields}
use Rattle.vortex_types.proofs.reading.+reading.Goals as goal

pub read_fields-read_type-requires : goal.read_fields-read_type-requires
read_fields-read_type-requires t c =
    let lighter = field-lighter (fields_of c.args.fields.now) c.loop-i.i (term_at c.dtype.result) c.dtype.ensures in
    (omega (arith, lighter), tt)

pub read_fields-loop-i-preserved : goal.read_fields-loop-i-preserved
read_fields-loop-i-preserved t c =
    let fs = fields_of c.args.fields.now in
    let ns = c.loop-i.names.items in
    let ts = c.loop-i.dtypes.items in (
      c.in_ok-push.ensures.items ∙ ap (λ (x : List ℕ). ns ++ x ∷ []) c.in_ok-from_text.ensures.name
          ∙ name_taken fs ns c.loop-i.i c.name.result.now c.name.ensures c.loop-i.invariant.0,
      c.in_ok-push-2.ensures.items ∙ ap (λ (u : Term). ts ++ u ∷ []) (c.from_dtype.ensures ∙ c.in_ok-dtype.ensures.term)
          ∙ type_taken fs ts c.loop-i.i (term_at c.dtype.result) c.dtype.ensures c.loop-i.invariant.1,
    )

pub read_fields-struct_fields-requires : goal.read_fields-struct_fields-requires
read_fields-struct_fields-requires t c =
    as_many (fields_of c.args.fields.now) c.loop-i.names.items c.loop-i.dtypes.items c.loop-i.i (omega (arith, c.len-i-end.ensures)) c.loop-i.invariant.0 c.loop-i.invariant.1

pub read_fields-returns-clause-fields : goal.read_fields-returns-clause-fields
read_fields-returns-clause-fields t c =
    let same = all_fields (fields_of c.args.fields.now) c.loop-i.names.items c.loop-i.dtypes.items c.loop-i.i (omega (arith, c.len-i-end.ensures)) c.loop-i.invariant.0 c.loop-i.invariant.1 in
    subst (λ (gs : Fields). IfOk c.struct_fields.result (λ (s : Fields). s ≡ gs)) same c.struct_fields.ensures.fields

use Rattle.std.proofs.Common.{ℕ, List, sym, subst, ◌∙◌}
use Rattle.std.specs.Prelude.{IsSome}
use Rattle.std.specs.Option.{option_flatten}
use Rattle.vortex_flat.specs.Targets.{vector_field}
use Rattle.vortex_schema.specs.declared.schema.TheConstants.{STRUCT_NAMES, STRUCT_DTYPES}
use Rattle.vortex_schema.specs.Reading.{struct_at}
use Rattle.vortex_schema.specs.inner.InPlace.{in_place, inside}
use Rattle.vortex_schema.proofs.InPlace.{StructInPlace, vector_same, struct_in_place}
use Rattle.vortex_schema.proofs.node.struct_node.Goals as goal

pub invariant_of-fields : goal.invariant_of-fields
invariant_of-fields c =
    let b = c.args.body.now.buffer in
    let q = c.args.body.now.place in
    let names = vector_same b (option_flatten (vector_field b q STRUCT_NAMES 4)) c.in_ok-names.names c.in_ok-names.ensures.found in
    let dtypes = vector_same b (option_flatten (vector_field b q STRUCT_DTYPES 4)) c.in_ok-dtypes.dtypes c.in_ok-dtypes.ensures.found in
    let stands = subst (λ (l : List ℕ). IsSome (struct_at l (in_place l) inside q)) (sym c.requires.buffer) c.requires.stands in
    let here = struct_in_place b q c.in_ok-names.names.shape c.in_ok-dtypes.dtypes.shape c.in_ok-nullable.nullable names.1 dtypes.1 c.in_ok-nullable.ensures stands in
    let at_bytes = subst (λ (l : List ℕ). StructInPlace l q c.in_ok-names.names.shape c.in_ok-dtypes.dtypes.shape c.in_ok-nullable.nullable) c.requires.buffer here in
    record {
      names_buffer = names.0 ∙ c.requires.buffer;
      dtypes_buffer = dtypes.0 ∙ c.requires.buffer;
      names_width = c.in_ok-names.ensures.width;
      dtypes_width = c.in_ok-dtypes.ensures.width;
      counts = at_bytes.counts;
      stand = at_bytes.stand;
    }

pub returns : goal.returns
returns c =
    let b = c.args.body.now.buffer in
    let q = c.args.body.now.place in
    let names = vector_same b (option_flatten (vector_field b q STRUCT_NAMES 4)) c.in_ok-names.names c.in_ok-names.ensures.found in
    let dtypes = vector_same b (option_flatten (vector_field b q STRUCT_DTYPES 4)) c.in_ok-dtypes.dtypes c.in_ok-dtypes.ensures.found in
    let stands = subst (λ (l : List ℕ). IsSome (struct_at l (in_place l) inside q)) (sym c.requires.buffer) c.requires.stands in
    let here = struct_in_place b q c.in_ok-names.names.shape c.in_ok-dtypes.dtypes.shape c.in_ok-nullable.nullable names.1 dtypes.1 c.in_ok-nullable.ensures stands in
    (subst (λ (l : List ℕ). StructInPlace l q c.in_ok-names.names.shape c.in_ok-dtypes.dtypes.shape c.in_ok-nullable.nullable) c.requires.buffer here).whole_is

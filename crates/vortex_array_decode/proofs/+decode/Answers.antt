use Rattle.std.proofs.Common.{rules, arith, refl, ◌≡◌, ◌≤◌, ◌<◌, ◌∙◌, Some, None, ap, length}
use Rattle.std.specs.Prelude.{IsTrue}
use Rattle.std.proofs.lemmas.Grind.{common_steps}
use Rattle.std.proofs.lemmas.List.{length-map}
use Rattle.vortex_terms.specs.Term.{binary, boolean, decimal, primitive, utf8}
use Rattle.vortex_terms.specs.Types.{field_count}
use Rattle.vortex_number.specs.WholeKind.{whole_kind}
use Rattle.vortex_types.specs.DTypes.{term_of}
use Rattle.vortex_body.specs.Node.{node_encoding, nodes_from}
use Rattle.vortex_names.specs.Nullable.{is_nullable}
use Rattle.vortex_node_rows.specs.Encodings.{encoding_in}
use Rattle.vortex_node_rows.specs.RowsOf.{most_rows, truth_of}
use Rattle.vortex_node_rows.specs.declared.encoding.Encoding.TheVariants as encoding
use Rattle.vortex_node_rows.proofs.RowsCounted.{rows_count}
use Rattle.vortex_array_data.specs.Content.{held_node}
use Rattle.vortex_array_decode.proofs.Agreements.{agrees_by, first_agrees, leaf_agrees, list_agrees, only_agrees}
use Rattle.vortex_array_decode.proofs.Nodes.{lighter, read_children, others_bytes, others_fewer, many_refused, unknown_refused, known_refused, held_stands, held_count, held_fit}
use Rattle.vortex_array_decode.proofs.Refusals.{passes_on, column_read}
use Rattle.vortex_array_decode.proofs.FieldArrays.{begun_with, too_few_refused, first_fewer, first_bytes, stopped_refused, pushed, ended_refused, ended_some, all_fit, all_agree}
use Rattle.vortex_array_decode.proofs.+decode.Goals as goal

pub decode::binaries-validity-requires :
    goal.decode::binaries-validity-requires
decode::binaries-validity-requires t c = (
  omega (arith, c.decreases, lighter c.args.parts.now _ c.children.ensures),
  (read_children c.args.parts.now _ c.children.ensures c.requires.bytes, c.requires.few),
)

pub decode::bools-validity-requires :
    goal.decode::bools-validity-requires
decode::bools-validity-requires t c = (
  omega (arith, c.decreases, lighter c.args.parts.now _ c.children.ensures),
  (read_children c.args.parts.now _ c.children.ensures c.requires.bytes, c.requires.few),
)

pub decode::decimals-validity-requires :
    goal.decode::decimals-validity-requires
decode::decimals-validity-requires t c = (
  omega (arith, c.decreases, lighter c.args.parts.now _ c.children.ensures),
  (read_children c.args.parts.now _ c.children.ensures c.requires.bytes, c.requires.few),
)

pub decode::numbers-validity-requires :
    goal.decode::numbers-validity-requires
decode::numbers-validity-requires t c = (
  omega (arith, c.decreases, lighter c.args.parts.now _ c.children.ensures),
  (read_children c.args.parts.now _ c.children.ensures c.requires.bytes, c.requires.few),
)

pub decode::texts-validity-requires :
    goal.decode::texts-validity-requires
decode::texts-validity-requires t c = (
  omega (arith, c.decreases, lighter c.args.parts.now _ c.children.ensures),
  (read_children c.args.parts.now _ c.children.ensures c.requires.bytes, c.requires.few),
)

pub decode_nested::fixed_lists-elements-requires :
    goal.decode_nested::fixed_lists-elements-requires
decode_nested::fixed_lists-elements-requires t c = (
  omega (arith, c.decreases, lighter c.args.parts.now _ c.children.ensures),
  (read_children c.args.parts.now _ c.children.ensures c.requires.bytes, c.requires.few),
)

pub decode_nested::lists-elements-requires :
    goal.decode_nested::lists-elements-requires
decode_nested::lists-elements-requires t c = (
  omega (arith, c.decreases, lighter c.args.parts.now _ c.children.ensures),
  (read_children c.args.parts.now _ c.children.ensures c.requires.bytes, c.requires.few),
)

pub decode_nested::structs-field_arrays-requires :
    goal.decode_nested::structs-field_arrays-requires
decode_nested::structs-field_arrays-requires t c = (
  omega (arith, c.decreases, lighter c.args.parts.now _ c.children.ensures),
  (read_children c.args.parts.now _ c.children.ensures c.requires.bytes, c.requires.few),
)

pub decode_nested::extension-only_array-requires :
    goal.decode_nested::extension-only_array-requires
decode_nested::extension-only_array-requires t c = (
  omega (arith, c.decreases, lighter c.args.parts.now _ c.children.ensures),
  read_children c.args.parts.now _
      c.children.ensures c.requires.bytes,
)

pub decode::decode-returns-then-n-gt-MOST_ROWS-clause-rows :
    goal.decode::decode-returns-then-n-gt-MOST_ROWS-clause-rows
decode::decode-returns-then-n-gt-MOST_ROWS-clause-rows t c =
    let many : most_rows < c.args.n = search rules in
    many_refused (encoding_in c.args.context.now) c.args.parts.now (term_of c.args.dtype.now) c.args.n many

pub decode::decode-returns-in_default-clause-rows :
    goal.decode::decode-returns-in_default-clause-rows
decode::decode-returns-in_default-clause-rows t c =
    let none : encoding_in c.args.context.now (node_encoding c.args.parts.now) ≡ None = search rules in
    unknown_refused (encoding_in c.args.context.now) c.args.parts.now (term_of c.args.dtype.now) c.args.n none

pub decode::decode-returns-in_err-held-clause-rows :
    goal.decode::decode-returns-in_err-held-clause-rows
decode::decode-returns-in_err-held-clause-rows t c =
    let known : encoding_in c.args.context.now
    (node_encoding c.args.parts.now) ≡ Some c.in-Some.encoding = search rules in
    let few : c.args.n ≤ most_rows = search rules in
    passes_on _ c.from_residual.result c.in_err-held.field-0.0 _ c.from_residual.ensures.1
    (known_refused (encoding_in c.args.context.now) c.args.parts.now
    (term_of c.args.dtype.now) c.args.n c.in-Some.encoding c.in_err-held.field-0.0 known few
    c.in_err-held.ensures.rows)

pub decode::decode-made-requires-clause-count :
    goal.decode::decode-made-requires-clause-count
decode::decode-made-requires-clause-count t c =
    let known : encoding_in c.args.context.now
    (node_encoding c.args.parts.now) ≡ Some c.in-Some.encoding = search rules in
    let few : c.args.n ≤ most_rows = search rules in
    held_count (encoding_in c.args.context.now) c.args.parts.now (term_of c.args.dtype.now)
    (term_of c.in-Ok.own) c.args.n c.in-Some.encoding c.in_ok-held.held c.in-Ok.ensures.term known few
    c.in_ok-held.ensures.rows

pub decode::decode-made-requires-clause-fit :
    goal.decode::decode-made-requires-clause-fit
decode::decode-made-requires-clause-fit t c =
    let known : encoding_in c.args.context.now
    (node_encoding c.args.parts.now) ≡ Some c.in-Some.encoding = search rules in
    let few : c.args.n ≤ most_rows = search rules in
    held_fit (encoding_in c.args.context.now) c.args.parts.now (term_of c.args.dtype.now)
    (term_of c.in-Ok.own) c.args.n c.in-Some.encoding c.in_ok-held.held c.in-Ok.ensures.term known few
    c.in_ok-held.ensures.rows c.requires

pub decode::decode-returns-clause-rows :
    goal.decode::decode-returns-clause-rows
decode::decode-returns-clause-rows t c =
    let known : encoding_in c.args.context.now
    (node_encoding c.args.parts.now) ≡ Some c.in-Some.encoding = search rules in
    let few : c.args.n ≤ most_rows = search rules in
    held_stands (encoding_in c.args.context.now) c.args.parts.now (term_of c.args.dtype.now)
    (term_of c.in-Ok.own) c.args.n c.in-Some.encoding c.in_ok-held.held c.made.result.rows c.in-Ok.ensures.term known
    few c.in_ok-held.ensures.rows c.made.ensures.rows

pub decode::validity-returns-in_ok-array-in-len1-up-clause-mask :
    goal.decode::validity-returns-in_ok-array-in-len1-up-clause-mask
decode::validity-returns-in_ok-array-in-len1-up-clause-mask t c =
    let nullable : IsTrue (is_nullable c.args.nullability) = search rules in (
      ap length c.into_mask.ensures ∙ length-map c.in_ok-array-in-len1-up.array.rows truth_of
          ∙ rows_count _ _ _ _ c.in_ok-array-in-len1-up.array.rows c.in_ok-array-in-len1-up.ensures.rows,
      nullable,
    )

pub decode_nested::elements-validity-requires :
    goal.decode_nested::elements-validity-requires
decode_nested::elements-validity-requires t c = (
  omega (
    arith,
    c.decreases,
    others_fewer c.args.nodes.now c.first-item.result c.in-len1-up.len_at_least
        c.first-item.is,
  ),
  (
    others_bytes c.args.nodes.now c.first-item.result c.in-len1-up.len_at_least c.first-item.is c.requires.bytes,
    c.requires.few,
  ),
)

pub decode_nested::elements-returns-clause-column :
    goal.decode_nested::elements-returns-clause-column
decode_nested::elements-returns-clause-column t c =
    (c.in_ok-elements.ensures.dtype, rows_count _ _ _ _ c.in_ok-elements.elements.rows c.in_ok-elements.ensures.rows)

pub decode_nested::only_array-returns-clause-column :
    goal.decode_nested::only_array-returns-clause-column
decode_nested::only_array-returns-clause-column t c =
    column_read c.decode.result (encoding_in c.args.context.now) c.child-item.result
    (term_of c.args.dtype.now) c.args.n c.decode.ensures.rows c.decode.ensures.dtype

pub decode_nested::field_arrays-loop-i-init :
    goal.decode_nested::field_arrays-loop-i-init
decode_nested::field_arrays-loop-i-init t c =
    begun_with (encoding_in c.args.context.now) (nodes_from c.args.nodes.now) c.args.fields.now
    (is_nullable c.args.nullability) c.args.n c.in_ok-arrays.arrays.items c.in_ok-arrays.ensures.items
    c.requires.bytes

pub decode_nested::field_arrays-returns-in_default-clause-rows :
    goal.decode_nested::field_arrays-returns-in_default-clause-rows
decode_nested::field_arrays-returns-in_default-clause-rows t c =
    let within : c.loop-i.i < field_count c.args.fields.now = search rules in
    too_few_refused (encoding_in c.args.context.now) (nodes_from c.args.nodes.now) c.loop-i.rest.now c.args.fields.now
    (is_nullable c.args.nullability) c.args.n c.loop-i.i c.loop-i.arrays.items c.loop-i.invariant
    c.in_default.len_below within

pub decode_nested::field_arrays-decode-requires :
    goal.decode_nested::field_arrays-decode-requires
decode_nested::field_arrays-decode-requires t c = (
  omega (
    arith,
    c.decreases,
    first_fewer (encoding_in c.args.context.now)
        (nodes_from c.args.nodes.now) c.loop-i.rest.now c.args.fields.now
        (is_nullable c.args.nullability) c.args.n c.loop-i.i c.loop-i.arrays.items c.first-item.result c.loop-i.invariant
        c.in-len1-up.len_at_least c.first-item.is,
  ),
  first_bytes (encoding_in c.args.context.now) (nodes_from c.args.nodes.now) c.loop-i.rest.now c.args.fields.now
      (is_nullable c.args.nullability) c.args.n c.loop-i.i c.loop-i.arrays.items c.first-item.result c.loop-i.invariant
      c.in-len1-up.len_at_least c.first-item.is,
)

pub decode_nested::field_arrays-returns-in_err-decode-clause-rows :
    goal.decode_nested::field_arrays-returns-in_err-decode-clause-rows
decode_nested::field_arrays-returns-in_err-decode-clause-rows t c =
    passes_on _ c.from_residual-in_err-decode.result c.in_err-decode.field-0.0 _ c.from_residual-in_err-decode.ensures.1
    (stopped_refused (encoding_in c.args.context.now)
    (nodes_from c.args.nodes.now) c.loop-i.rest.now c.args.fields.now
    (is_nullable c.args.nullability) c.args.n c.loop-i.i c.loop-i.arrays.items c.first-item.result
    (term_of c.in_ok-dtype.dtype) c.in_err-decode.field-0.0 c.loop-i.invariant c.in-len1-up.len_at_least
    c.first-item.is c.in_ok-dtype.ensures.field c.in_err-decode.ensures.rows)

pub decode_nested::field_arrays-loop-i-preserved :
    goal.decode_nested::field_arrays-loop-i-preserved
decode_nested::field_arrays-loop-i-preserved t c =
    pushed (encoding_in c.args.context.now) (nodes_from c.args.nodes.now) c.loop-i.rest.now c.args.fields.now
    (is_nullable c.args.nullability) c.args.n c.loop-i.i c.loop-i.arrays.items c.first-item.result
    (term_of c.in_ok-dtype.dtype) c.in_ok-decode.field-0 c.push.new.self.items c.loop-i.invariant
    c.in-len1-up.len_at_least c.first-item.is c.in_ok-dtype.ensures.field c.in_ok-decode.ensures.rows
    c.in_ok-decode.ensures.dtype c.in_ok-decode.ensures.node c.in_ok-push.ensures.items

pub decode_nested::field_arrays-validity-requires :
    goal.decode_nested::field_arrays-validity-requires
decode_nested::field_arrays-validity-requires t c =
    (omega (arith, c.decreases, c.loop-i.invariant.fewer), (c.loop-i.invariant.bytes, c.requires.few))

pub decode_nested::field_arrays-returns-in_err-validity-clause-rows :
    goal.decode_nested::field_arrays-returns-in_err-validity-clause-rows
decode_nested::field_arrays-returns-in_err-validity-clause-rows t c =
    let all : field_count c.args.fields.now ≡ c.loop-i.i = omega
    (arith, c.nfields-count.ensures, c.loop-i-test.false, c.loop-i.auto.i-end) in
    passes_on _ c.from_residual-in_err-validity.result c.in_err-validity.field-0.0 _
    c.from_residual-in_err-validity.ensures.1
    (ended_refused (encoding_in c.args.context.now) (nodes_from c.args.nodes.now) c.loop-i.rest.now c.args.fields.now
    (is_nullable c.args.nullability) c.args.n c.loop-i.i c.loop-i.arrays.items c.in_err-validity.field-0.0
    c.loop-i.invariant all c.in_err-validity.ensures.rows)

pub decode_nested::field_arrays-returns-clause-rows :
    goal.decode_nested::field_arrays-returns-clause-rows
decode_nested::field_arrays-returns-clause-rows t c =
    let all : field_count c.args.fields.now ≡ c.loop-i.i = omega
    (arith, c.nfields-count.ensures, c.loop-i-test.false, c.loop-i.auto.i-end) in
    ended_some (encoding_in c.args.context.now) (nodes_from c.args.nodes.now) c.loop-i.rest.now c.args.fields.now
    (is_nullable c.args.nullability) c.args.n c.loop-i.i c.loop-i.arrays.items c.in_ok-validity.validity
    c.loop-i.invariant all c.in_ok-validity.ensures.rows

pub decode_nested::field_arrays-returns-clause-fields :
    goal.decode_nested::field_arrays-returns-clause-fields
decode_nested::field_arrays-returns-clause-fields t c =
    let all : field_count c.args.fields.now ≡ c.loop-i.i = omega
    (arith, c.nfields-count.ensures, c.loop-i-test.false, c.loop-i.auto.i-end) in
    all_fit (encoding_in c.args.context.now) (nodes_from c.args.nodes.now)
    (nodes_from c.loop-i.rest.now) c.args.fields.now
    (is_nullable c.args.nullability) c.args.n c.loop-i.i c.loop-i.arrays.items c.loop-i.invariant all

pub decode::decode-returns-clause-node :
    goal.decode::decode-returns-clause-node
decode::decode-returns-clause-node t c =
    let known : encoding_in c.args.context.now
    (node_encoding c.args.parts.now) ≡ Some c.in-Some.encoding = search rules in
    agrees_by (encoding_in c.args.context.now) c.in-Some.encoding (term_of c.args.dtype.now) c.args.n c.args.parts.now
    (held_node c.args.n c.in_ok-held.held) c.made.result.node known c.in_ok-held.ensures.node c.made.ensures.node

pub decode::bools-returns-clause-node :
    goal.decode::bools-returns-clause-node
decode::bools-returns-clause-node t c =
    leaf_agrees (encoding_in c.args.context.now) encoding.Bool (boolean (is_nullable c.args.nullability)) c.args.n
    c.args.parts.now c.in_ok-validity.validity refl

pub decode::numbers-returns-clause-node :
    goal.decode::numbers-returns-clause-node
decode::numbers-returns-clause-node t c =
    leaf_agrees (encoding_in c.args.context.now) encoding.Primitive (primitive (whole_kind c.args.ptype)
    (is_nullable c.args.nullability)) c.args.n c.args.parts.now c.in_ok-validity.validity refl

pub decode::decimals-returns-clause-node :
    goal.decode::decimals-returns-clause-node
decode::decimals-returns-clause-node t c =
    leaf_agrees (encoding_in c.args.context.now) encoding.Decimal (decimal c.args.dtype.precision c.args.dtype.scale
    (is_nullable c.args.nullability)) c.args.n c.args.parts.now c.in_ok-validity.validity refl

pub decode::binaries-returns-clause-node :
    goal.decode::binaries-returns-clause-node
decode::binaries-returns-clause-node t c =
    leaf_agrees (encoding_in c.args.context.now) encoding.VarBin (binary (is_nullable c.args.nullability)) c.args.n
    c.args.parts.now c.in_ok-validity.validity refl

pub decode::texts-returns-clause-node :
    goal.decode::texts-returns-clause-node
decode::texts-returns-clause-node t c =
    leaf_agrees (encoding_in c.args.context.now) encoding.VarBin (utf8 (is_nullable c.args.nullability)) c.args.n
    c.args.parts.now c.in_ok-validity.validity refl

pub decode_nested::elements-returns-clause-parts :
    goal.decode_nested::elements-returns-clause-parts
decode_nested::elements-returns-clause-parts t c =
    first_agrees (encoding_in c.args.context.now) c.args.nodes.now c.first-item.result (term_of c.args.dtype.now)
    (Some c.args.count) c.args.n c.in_ok-elements.elements.node c.in_ok-validity.validity c.in-len1-up.len_at_least
    c.first-item.is c.in_ok-elements.ensures.node

pub decode_nested::only_array-returns-clause-parts :
    goal.decode_nested::only_array-returns-clause-parts
decode_nested::only_array-returns-clause-parts t c =
    only_agrees c.decode.result (encoding_in c.args.context.now) c.args.nodes.now c.child-item.result
    (term_of c.args.dtype.now) c.args.n c.in-len1-up.len_at_least c.child-item.is c.decode.ensures.node

pub decode_nested::field_arrays-returns-clause-parts :
    goal.decode_nested::field_arrays-returns-clause-parts
decode_nested::field_arrays-returns-clause-parts t c =
    let all : field_count c.args.fields.now ≡ c.loop-i.i = omega
    (arith, c.nfields-count.ensures, c.loop-i-test.false, c.loop-i.auto.i-end) in
    all_agree (encoding_in c.args.context.now) (nodes_from c.args.nodes.now) (nodes_from c.loop-i.rest.now)
    c.args.fields.now (is_nullable c.args.nullability) c.args.n c.loop-i.i c.loop-i.arrays.items
    c.in_ok-validity.validity c.loop-i.invariant all

pub decode_nested::lists-returns-clause-node :
    goal.decode_nested::lists-returns-clause-node
decode_nested::lists-returns-clause-node t c =
    let same : c.in_ok-new.field-0.value ≡ c.in_ok-elements.elements = first_of (search rules, grind (arith, common_steps)) in
    list_agrees (encoding_in c.args.context.now) (term_of c.args.element.now) (is_nullable c.args.nullability)
    c.in-Ok.metadata.elements c.args.n c.args.parts.now (nodes_from c.children.result.now) c.in_ok-elements.elements
    c.in_ok-new.field-0.value c.in_ok-elements.validity c.children.ensures same c.in_ok-elements.ensures.parts

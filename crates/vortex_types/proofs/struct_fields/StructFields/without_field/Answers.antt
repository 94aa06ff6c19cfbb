use Rattle.std.proofs.Common.{◌≡◌, ◌<◌, cond, Some, None, ap, ◌∙◌, sym, subst}
use Rattle.std.proofs.Common.{IfOk, arith}
use Rattle.std.specs.Prelude.{ok_or}
use Rattle.std.specs.List.{remove}
use Rattle.std.proofs.lemmas.Bool.Decides.{Decides-ltb}
use Rattle.vortex_terms.specs.Types.{names_of, types_of, fields_from, field_count}
use Rattle.vortex_terms.specs.FieldLaws.{length-names_of, length-types_of}
use Rattle.vortex_names.specs.declared.error.DTypeError.TheVariants as error
use Rattle.vortex_types.proofs.Projected.{made_answer, same_removed, removed}
use Rattle.vortex_types.proofs.struct_fields.StructFields.without_field.Goals as goal

pub other_names-requires : goal.other_names-requires
other_names-requires c =
    rw (c.as_slice.ensures, c.names.ensures, length-names_of c.args.self.now) (omega (arith, c.nfields.ensures, c.if-index-nfields.false))

pub other_fields-requires : goal.other_fields-requires
other_fields-requires c =
    rw (c.kinds.ensures, length-types_of c.args.self.now) (omega (arith, c.nfields.ensures, c.if-index-nfields.false))

pub made-requires : goal.made-requires
made-requires c =
    let fs = c.args.self.now in
    let ns : c.in_ok-names.names.items ≡ remove (names_of fs) c.args.index =
    removed _ (names_of fs) _ c.args.index c.in_ok-names.ensures.others (c.as_slice.ensures ∙ c.names.ensures) in
    let ts : c.in_ok-dtypes.dtypes.items ≡ remove (types_of fs) c.args.index =
    removed _ (types_of fs) _ c.args.index c.in_ok-dtypes.ensures.others c.kinds.ensures in
    rw (ns, ts) (same_removed (names_of fs) (types_of fs) c.args.index (length-names_of fs ∙ sym (length-types_of fs)))

pub returns : goal.returns
returns c =
    let fs = c.args.self.now in
    let ns : c.in_ok-names.names.items ≡ remove (names_of fs) c.args.index =
    removed _ (names_of fs) _ c.args.index c.in_ok-names.ensures.others (c.as_slice.ensures ∙ c.names.ensures) in
    let ts : c.in_ok-dtypes.dtypes.items ≡ remove (types_of fs) c.args.index =
    removed _ (types_of fs) _ c.args.index c.in_ok-dtypes.ensures.others c.kinds.ensures in
    let within : c.args.index < field_count fs = omega (arith, c.nfields.ensures, c.if-index-nfields.false) in
    let rest = fields_from (remove (names_of fs) c.args.index) (remove (types_of fs) c.args.index) in
    made_answer c.made.result rest _
    (ap (λ b. ok_or (cond b (Some rest) None) error.IndexOutOfBounds) ((Decides-ltb c.args.index (field_count fs)).1 within))
    (subst (λ hs. IfOk c.made.result (λ s. s ≡ hs)) (λ i. fields_from (ns i) (ts i)) c.made.ensures.fields) c.made.ensures.memory

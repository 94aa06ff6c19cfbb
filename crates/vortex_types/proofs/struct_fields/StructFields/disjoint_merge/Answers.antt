use Rattle.std.proofs.Common.{◌≡◌, false, cond, Some, None, ap, ◌∙◌, sym, subst, ◌++◌, IfOk}
use Rattle.std.specs.Prelude.{ok_or}
use Rattle.vortex_terms.specs.Types.{names_of, types_of, fields_from, fields_append}
use Rattle.vortex_terms.specs.StructFields.{name_repeats}
use Rattle.vortex_names.specs.declared.error.DTypeError.TheVariants as error
use Rattle.vortex_types.proofs.Projected.{made_answer, merged_lengths, merged}
use Rattle.vortex_types.proofs.struct_fields.StructFields.disjoint_merge.Goals as goal

pub made-requires : goal.made-requires
made-requires c =
    let ns : c.in_ok-names.names.items ≡ names_of c.args.self.now ++ names_of c.args.other.now =
    c.in_ok-names.ensures.joined ∙ (λ i. (c.as_slice.ensures ∙ c.names.ensures) i ++ (c.as_slice-2.ensures ∙ c.names-2.ensures) i) in
    let ts : c.in_ok-dtypes.dtypes.items ≡ types_of c.args.self.now ++ types_of c.args.other.now =
    c.in_ok-dtypes.ensures.joined ∙ (λ i. c.kinds.ensures i ++ c.kinds-2.ensures i) in
    rw (ns, ts) (merged_lengths c.args.self.now c.args.other.now)

pub returns : goal.returns
returns c =
    let fs = c.args.self.now in
    let gs = c.args.other.now in
    let ns : c.in_ok-names.names.items ≡ names_of fs ++ names_of gs =
    c.in_ok-names.ensures.joined ∙ (λ i. (c.as_slice.ensures ∙ c.names.ensures) i ++ (c.as_slice-2.ensures ∙ c.names-2.ensures) i) in
    let ts : c.in_ok-dtypes.dtypes.items ≡ types_of fs ++ types_of gs =
    c.in_ok-dtypes.ensures.joined ∙ (λ i. c.kinds.ensures i ++ c.kinds-2.ensures i) in
    let apart : name_repeats (names_of fs ++ names_of gs) ≡ false =
    ap name_repeats (sym ns) ∙ ap name_repeats (sym c.deref.ensures.value) ∙ sym c.in_ok-repeats.ensures.repeats ∙ c.if-branch.false in
    let all : fields_from c.in_ok-names.names.items c.in_ok-dtypes.dtypes.items ≡ fields_append fs gs =
    (λ i. fields_from (ns i) (ts i)) ∙ merged fs gs in
    made_answer c.made.result (fields_append fs gs) _
    (ap (λ b. ok_or (cond b None (Some (fields_append fs gs))) error.DuplicateName) apart)
    (subst (λ hs. IfOk c.made.result (λ s. s ≡ hs)) all c.made.ensures.fields) c.made.ensures.memory

use Rattle.std.proofs.Common.{sym, subst, ap, ◌∙◌}
use Rattle.vortex_terms.specs.Types.{types_of}
use Rattle.vortex_terms.specs.FieldLaws.{types_of-from}
use Rattle.vortex_types.specs.DTypes.{AreKept, kept_fields}
use Rattle.vortex_types.proofs.struct_fields.StructFields.kinds.Goals as goal

pub returns-in-Shared : goal.returns-in-Shared
returns-in-Shared c =
    let are = subst AreKept c.in-Shared.is c.self.invariant in
    c.as_slice.ensures.value ∙ ap (λ v. v.items) c.deref.ensures ∙ sym (types_of-from _ _ are.0)
    ∙ ap (λ k. types_of (kept_fields k)) (sym c.in-Shared.is) ∙ ap types_of c.self.view_is

use Rattle.std.proofs.Common.{sym, subst, ap, ◌∙◌}
use Rattle.vortex_terms.specs.Types.{names_of}
use Rattle.vortex_terms.specs.FieldLaws.{names_of-from}
use Rattle.vortex_types.specs.DTypes.{AreKept, kept_fields}
use Rattle.vortex_types.proofs.struct_fields.StructFields.names.Goals as goal

pub returns-in-Shared : goal.returns-in-Shared
returns-in-Shared c =
    let are = subst AreKept c.in-Shared.is c.self.invariant in
    c.deref.ensures ∙ sym (names_of-from _ _ are.0)
    ∙ ap (λ k. names_of (kept_fields k)) (sym c.in-Shared.is) ∙ ap names_of c.self.view_is

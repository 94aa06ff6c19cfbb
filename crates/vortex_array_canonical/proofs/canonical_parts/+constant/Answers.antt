use Rattle.std.proofs.Common.{◌∙◌, List, Some, sym, ap, arith}
use Rattle.std.specs.Prelude.{not}
use Rattle.vortex_array_data.specs.Column.{Column}
use Rattle.vortex_array_data.specs.declared.held.Content.{Content}
use Rattle.vortex_array_data.specs.inner.Picked.{are_plain_columns, is_plain_content}
use Rattle.vortex_array_data.proofs.HeldParts.{fields_in}
use Rattle.vortex_array_data.proofs.HeldValues.{struct_lighter}
use Rattle.vortex_array_data.proofs.PlainNodes.{inside_plain}
use Rattle.vortex_array_canonical.proofs.canonical_parts.+constant.Goals as goal

pub has_constant-any_constant-requires : goal.has_constant-any_constant-requires
has_constant-any_constant-requires t c = (
  omega (
    arith,
    c.decreases,
    struct_lighter c.array.inside c.args.array.now c.deref-in-Structs.result.now c.array.view_is
        (ap fields_in c.in-Structs.is ∙ ap Some (sym c.deref-in-Structs.ensures.value)),
  ),
  tt,
)

pub has_constant-returns-in-Structs : goal.has_constant-returns-in-Structs
has_constant-returns-in-Structs t c =
    c.any_constant.ensures ∙ ap (λ (cs : List Column). not (are_plain_columns cs)) c.deref-in-Structs.ensures.value
    ∙ ap (λ (k : Content). not (is_plain_content k)) (sym c.in-Structs.is)
    ∙ sym (ap not (inside_plain c.array.inside c.args.array.now c.array.view_is))

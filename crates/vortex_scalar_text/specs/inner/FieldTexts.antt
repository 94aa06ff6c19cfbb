-- The text of a field by its place: `field_text`.
use Rattle.std.specs.Prelude.{ℕ, List, [], ◌++◌, codes, slice_get}
use Rattle.std.specs.Option.{option_map_or}
use Rattle.vortex_terms.specs.Term.{Fields}
use Rattle.vortex_terms.specs.Types.{names_of, field_at}
use Rattle.vortex_scalar_value.specs.Value.{ValueTerm}
use Rattle.vortex_scalar_text.specs.ScalarText.{scalar_text}

abbrev pub field_text : Fields → ℕ → ValueTerm → List ℕ
field_text fs i v =
    option_map_or (λ x. x) (slice_get (names_of fs) i) [] ++ codes ": "
    ++ option_map_or (λ t. scalar_text t v) (field_at fs i) []

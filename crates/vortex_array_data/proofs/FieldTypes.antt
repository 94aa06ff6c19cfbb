-- The types of fields.
use Rattle.std.proofs.Common.{◌≡◌, ◌<◌, ◌∙◌, zero, suc, ℕ, None, Some, refl, arith}
use Rattle.vortex_terms.specs.Term.{Term, Fields, no_fields, field}
use Rattle.vortex_terms.specs.Types.{field_at, field_count}
use Rattle.vortex_node_rows.proofs.Options.{none_some}

pub at_place : (fs : Fields) (i : ℕ) → i < field_count fs → (t : Term) × (field_at fs i ≡ Some t)
at_place no_fields i h = absurd (omega (arith, h))
at_place (field x t fs) zero h = (t, refl)
at_place (field x t fs) (suc i) h = at_place fs i (omega (arith, h))

-- there is a type at each place of a field
pub field_there : (fs : Fields) (i : ℕ) → i < field_count fs → None ≡ field_at fs i → ⊥
field_there fs i h e = let here = at_place fs i h in none_some here.0 (e ∙ here.1)

-- Fields that are fed one after the other.
use Rattle.std.proofs.Common.{◌≡◌, ℕ, zero, suc, ◌+◌, ◌<◌, List, ◌++◌, refl, sym, ap, ◌∙◌, arith}
use Rattle.std.proofs.Common.{add-one}
use Rattle.std.specs.Prelude.{fold}
use Rattle.std.specs.Hash.{fed_then}
use Rattle.vortex_terms.specs.Term.{Fields, no_fields, field}
use Rattle.vortex_terms.specs.Types.{field_count}
use Rattle.vortex_types.specs.HashInput.{field_writes, fields_writes}
use Rattle.vortex_types.proofs.Fields.{fields_drop}

fed_suc : (fs : Fields) (i : ℕ) → i < field_count fs → fields_writes (fields_drop i fs) ≡ field_writes fs i ++ fields_writes (fields_drop (suc i) fs)
fed_suc (field x t fs) zero h = refl
fed_suc (field x t fs) (suc i) h = fed_suc fs i (omega arith)
fed_suc no_fields i h = absurd (omega arith)

-- what is left to feed is the first field that is left, and the rest
pub fed_step : {S : Type 0} (write : S → List ℕ → S) (fs : Fields) (i : ℕ) (s t u : S) → i < field_count fs → u ≡ fold write t (field_writes fs i)
    → fold write t (fields_writes (fields_drop i fs)) ≡ s → fold write u (fields_writes (fields_drop (i + 1) fs)) ≡ s
fed_step write fs i s t u h fed all =
    let rest : fields_writes (fields_drop i fs) ≡ field_writes fs i ++ fields_writes (fields_drop (i + 1) fs) = rw add-one (fed_suc fs i h) in
    fed_then write t u (fold write u (fields_writes (fields_drop (i + 1) fs))) (field_writes fs i) (fields_writes (fields_drop (i + 1) fs)) fed refl
    ∙ ap (fold write t) (sym rest) ∙ all

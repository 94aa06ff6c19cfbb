use Rattle.std.proofs.Common.{◌≡◌, ◌∷◌, [], ap, ◌∙◌}
use Rattle.std.specs.Prelude.{fold}
use Rattle.vortex_terms.specs.Types.{type_number}
use Rattle.vortex_types.specs.DTypes.{term_of}
use Rattle.vortex_types.specs.TypeRefs.{ref_term}
use Rattle.vortex_value_rows.specs.HashInput.{row_writes}
use Rattle.vortex_scalar.proofs.Compared.{own_row, has_row, under}
use Rattle.vortex_scalar.proofs.impls.hash_value.Goals as goal

pub hash_row-requires : goal.hash_row-requires
hash_row-requires g c =
    let t = term_of c.args.dtype.now in
    let r = ref_term c.type_ref-2.result in
    has_row r c.args.value.now _ (own_row t r c.args.value.now c.type_ref-2.ensures c.requires)

pub returns : goal.returns
returns g c =
    let write = g.H.Hasher.write in
    let t = term_of c.args.dtype.now in
    let r = ref_term c.type_ref-2.result in
    let fed : c.hash.new.state ≡ write c.args.state.now (type_number t ∷ []) =
    c.hash.ensures ∙ ap (λ n. write c.args.state.now (n ∷ [])) (c.kind.ensures ∙ ap type_number c.type_ref.ensures) in
    c.hash_row.ensures
    ∙ (λ i. fold write (fed i) (row_writes (under r c.args.value.now _ (own_row t r c.args.value.now c.type_ref-2.ensures c.requires) i)))

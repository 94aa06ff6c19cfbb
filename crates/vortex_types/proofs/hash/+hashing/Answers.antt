use Rattle.std.proofs.Common.{◌≡◌, ◌∷◌, ap, sym, ◌∙◌, arith}
use Rattle.std.specs.Prelude.{fold}
use Rattle.std.specs.Hash as fed
use Rattle.vortex_terms.specs.Types.{field_count}
use Rattle.vortex_types.specs.HashInput.{fields_writes}
use Rattle.vortex_types.specs.TypeRefs.{fields_term}
use Rattle.vortex_types.proofs.Fed.{fed_step}
use Rattle.vortex_types.proofs.Fields.{drop_all}
use Rattle.vortex_types.proofs.hash.+hashing.Goals as goal

pub hash_fields-loop-i-preserved : goal.hash_fields-loop-i-preserved
hash_fields-loop-i-preserved g t c =
    fed_step g.H.Hasher.write (fields_term c.args.fields) c.loop-i.i _ c.loop-i.state c.hash_field.new.state
    (omega (arith, c.len-n.ensures, c.loop-i-test.true)) c.hash_field.ensures c.loop-i.invariant

pub hash_fields-returns : goal.hash_fields-returns
hash_fields-returns g t c =
    let write = g.H.Hasher.write in
    let fs = fields_term c.args.fields in
    let end : field_count fs ≡ c.loop-i.i = omega (arith, c.len-n.ensures, c.loop-i-test.false, c.loop-i.auto.i-end) in
    sym (ap (λ gs. fold write c.loop-i.state (fields_writes gs)) (drop_all fs c.loop-i.i end)) ∙ c.loop-i.invariant
    ∙ ap (λ s. fold write s (fields_writes fs)) c.hash.ensures
    ∙ ap (λ n. fold write c.args.state.now (fed.le_bytes 8 n ∷ fields_writes fs)) c.len-n.ensures

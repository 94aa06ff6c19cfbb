use Rattle.std.proofs.Common.{length, arith}
use Rattle.std.proofs.lemmas.List.FromFn.{length-map-range_with_len}
use Rattle.std.specs.Option.{option_map}
use Rattle.vortex_dict.specs.Slices.{value_at}
use Rattle.vortex_dict.proofs.primitive_rows.PrimitiveRows.len.Goals as goal

pub returns : goal.returns
returns g c =
    let r = c.self.inside in
    let n = length-map-range_with_len (value_at r.values.now (option_map (λ v. v.now) r.valid)) 0 (length r.values.now) in
    rw (← c.self.view_is) (omega (arith, n))

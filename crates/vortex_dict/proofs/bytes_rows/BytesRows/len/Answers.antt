use Rattle.std.proofs.Common.{◌-◌, length, arith}
use Rattle.std.proofs.lemmas.List.FromFn.{length-map-range_with_len}
use Rattle.std.specs.Option.{option_map}
use Rattle.vortex_dict.specs.Slices.{bytes_at}
use Rattle.vortex_dict.proofs.bytes_rows.BytesRows.len.Goals as goal

pub returns : goal.returns
returns c =
    let r = c.self.inside in
    let n = length-map-range_with_len (bytes_at r.bytes.now r.offsets.now (option_map (λ v. v.now) r.valid)) 0 (length r.offsets.now - 1) in
    rw (← c.self.view_is) (omega (arith, n))

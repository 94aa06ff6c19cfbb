use Rattle.std.proofs.Common.{◌-◌, length, ap, sym, ◌∙◌, Some, arith}
use Rattle.std.specs.Option.{option_map}
use Rattle.std.proofs.lemmas.List.FromFn.{length-map-range_with_len}
use Rattle.vortex_dict.specs.Slices.{bytes_at}
use Rattle.vortex_dict.proofs.SliceLemmas.{made_at}
use Rattle.vortex_dict.proofs.bytes_rows.BytesRows.get.Goals as goal

pub row_at-requires-clause-within : goal.row_at-requires-clause-within
row_at-requires-clause-within c =
    let r = c.self.inside in
    let n = length-map-range_with_len (bytes_at r.bytes.now r.offsets.now (option_map (λ v. v.now) r.valid)) 0 (length r.offsets.now - 1) in
    let same = ap length c.self.view_is in
    omega (arith, n, same, c.requires)

pub returns : goal.returns
returns c =
    let r = c.self.inside in
    let f = bytes_at r.bytes.now r.offsets.now (option_map (λ v. v.now) r.valid) in
    let n = length-map-range_with_len f 0 (length r.offsets.now - 1) in
    let same = ap length c.self.view_is in
    rw (← c.self.view_is) (made_at f (length r.offsets.now - 1) c.args.i (omega (arith, n, same, c.requires)) ∙ ap (λ x. Some x) (sym c.row_at.ensures))

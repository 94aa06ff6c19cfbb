use Rattle.std.proofs.Common.{length, ap, sym, ◌∙◌, Some, arith}
use Rattle.std.specs.Option.{option_map}
use Rattle.std.proofs.lemmas.List.FromFn.{length-map-range_with_len}
use Rattle.vortex_dict.specs.Slices.{value_at}
use Rattle.vortex_dict.proofs.SliceLemmas.{made_at}
use Rattle.vortex_dict.proofs.primitive_rows.PrimitiveRows.get.Goals as goal

pub row_at-requires : goal.row_at-requires
row_at-requires g c =
    let r = c.self.inside in
    let n = length-map-range_with_len (value_at r.values.now (option_map (λ v. v.now) r.valid)) 0 (length r.values.now) in
    let same = ap length c.self.view_is in
    omega (arith, n, same, c.requires)

pub returns : goal.returns
returns g c =
    let r = c.self.inside in
    let f = value_at r.values.now (option_map (λ v. v.now) r.valid) in
    let n = length-map-range_with_len f 0 (length r.values.now) in
    let same = ap length c.self.view_is in
    rw (← c.self.view_is) (made_at f (length r.values.now) c.args.i (omega (arith, n, same, c.requires)) ∙ ap (λ x. Some x) (sym c.row_at.ensures))

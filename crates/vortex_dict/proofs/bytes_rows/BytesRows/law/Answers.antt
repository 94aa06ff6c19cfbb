use Rattle.std.proofs.Common.{rules, ◌^◌, ◌<◌, length}
use Rattle.vortex_dict.proofs.SliceLemmas.{row_short}
use Rattle.vortex_dict.proofs.bytes_rows.BytesRows.law.Goals as goal

pub returns : goal.returns
returns c =
    let small : length c.self.inside.bytes.now < 2 ^ 63 = search rules in
    row_short _ _ _ _ c.self.view_is small

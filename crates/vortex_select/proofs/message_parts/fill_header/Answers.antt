use Rattle.std.proofs.Common.{length}
use Rattle.std.specs.Int.{w32, to_le_bytes}
use Rattle.vortex_select.proofs.Laying.{put_twice}
use Rattle.vortex_select.proofs.message_parts.fill_header.Goals as goal

pub returns : goal.returns
returns c =
    let header = c.args.header.now in
    put_twice c.args.bytes.now.items c.fill.new.bytes.items c.fill-2.new.bytes.items c.to_le_bytes.result (to_le_bytes w32 (length header)) header c.args.at c.to_le_bytes.ensures c.requires.room c.fill.ensures c.fill-2.ensures

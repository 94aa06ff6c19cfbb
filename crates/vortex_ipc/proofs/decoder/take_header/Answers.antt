use Rattle.std.proofs.Common.{◌≡◌, None, length, refl, rules}
use Rattle.std.specs.Option.{option_map}
use Rattle.vortex_flat.specs.Numbers.{little_endian}
use Rattle.vortex_encodings.specs.Encodings.{names_of}
use Rattle.vortex_stream.specs.Header.{header_of}
use Rattle.vortex_ipc.specs.inner.Heads.{head_of}
use Rattle.vortex_ipc.proofs.GoneLemmas.{gone_header}
use Rattle.vortex_ipc.proofs.TakenLemmas.{none_taken}
use Rattle.vortex_ipc.proofs.decoder.take_header.Goals as goal

pub returns-in-Err-clause-stopped : goal.returns-in-Err-clause-stopped
returns-in-Err-clause-stopped c =
    let none : option_map (head_of (names_of c.args.registry)) (header_of c.in-Ok.header.bytes) ≡ None = search rules in
    let size : length c.in-Ok.header.bytes ≡ little_endian c.args.prefix.bytes = search rules in (
      none_taken (names_of c.args.registry) c.args.prefix.bytes c.args.bytes.now c.in-Ok.header.bytes c.take.new.self _ c.requires c.in-Ok.ensures.parts size none refl,
      gone_header c.args.prefix.bytes c.args.bytes.now c.in-Ok.header.bytes c.take.new.self _ c.requires c.in-Ok.ensures.parts size,
    )

use Rattle.std.proofs.Common.{◌≡◌, Some, refl, rules}
use Rattle.vortex_body.specs.Reading.{node_of}
use Rattle.vortex_ipc.specs.inner.Heads.{names_told}
use Rattle.vortex_ipc.proofs.BodyLemmas.{array_stands, names_there}
use Rattle.vortex_ipc.proofs.decoder.message_of.Goals as goal

pub read_array-requires : goal.read_array-requires
read_array-requires c = names_there c.args.header.now c.args.head.now c.requires c.in-Array.is

pub returns-in-Ok-clause-message : goal.returns-in-Ok-clause-message
returns-in-Ok-clause-message c =
    let found : node_of c.args.body.bytes ≡ Some c.in-Ok.parts = search rules in
    let names : names_told c.args.header.now ≡ Some c.in-Ok.names = search rules in
    array_stands c.args.header.now c.args.head.now c.args.body.bytes c.in-Ok.parts c.in-Ok.names c.args.head.now.rows c.requires c.in-Array.is found names refl

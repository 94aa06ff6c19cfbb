use Rattle.std.proofs.Common.{◌≡◌, true, rules}
use Rattle.vortex_terms.specs.Types.{is_within}
use Rattle.vortex_types.specs.DTypes.{term_of}
use Rattle.vortex_types.proofs.ReadMessages.{bounded_read}
use Rattle.vortex_types.proofs.dtype.DType.from_proto.Goals as goal

pub returns : goal.returns
returns c =
    let within : is_within (term_of c.in-Ok.dtype) ≡ true = search rules in
    bounded_read c.args.bytes.now (term_of c.in-Ok.dtype) c.are_bytes.ensures c.in-Ok.ensures within

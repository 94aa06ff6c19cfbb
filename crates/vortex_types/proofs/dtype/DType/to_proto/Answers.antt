use Rattle.std.proofs.Common.{◌≡◌, true, rules}
use Rattle.vortex_terms.specs.Types.{is_within}
use Rattle.vortex_proto.specs.TypeBytes.{type_bytes}
use Rattle.vortex_types.specs.DTypes.{term_of}
use Rattle.vortex_types.proofs.Written.{is_bounded}
use Rattle.vortex_types.proofs.Messages.{message_read}
use Rattle.vortex_types.proofs.dtype.DType.to_proto.Goals as goal

pub returns-in-Ok-clause-read : goal.returns-in-Ok-clause-read
returns-in-Ok-clause-read c =
    let within : is_within (term_of c.args.self.now) ≡ true = search rules in
    let bytes : c.finish.result.items ≡ type_bytes (term_of c.args.self.now) = search rules in
    message_read (term_of c.args.self.now) c.finish.result.items bytes (is_bounded (term_of c.args.self.now) c.law.ensures within)

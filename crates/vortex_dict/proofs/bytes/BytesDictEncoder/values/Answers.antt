use Rattle.std.proofs.Common.{◌∙◌, None}
use Rattle.vortex_codes.specs.Keys.{same_key}
use Rattle.vortex_codes.proofs.KeyLemmas.{same_key-Decides}
use Rattle.vortex_dict.specs.KeyRows.{bytes_or_null}
use Rattle.vortex_dict.proofs.ValueLemmas.{place_is, bytes_apart}
use Rattle.vortex_dict.proofs.bytes.BytesDictEncoder.values.Goals as goal

pub returns-clause-null : goal.returns-clause-null
returns-clause-null g c = rw (← c.self.view_is) (c.pieces.ensures.null ∙ place_is same_key same_key-Decides bytes_or_null bytes_apart None c.self.inside.lookup)

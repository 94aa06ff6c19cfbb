use Rattle.std.proofs.Common.{arith}
use Rattle.vortex_codes.specs.Keys.{same_key}
use Rattle.vortex_codes.proofs.KeyLemmas.{same_key-Decides}
use Rattle.vortex_dict.specs.KeyRows.{bytes_or_null}
use Rattle.vortex_dict.proofs.ValueLemmas.{own_distinct, bytes_apart}
use Rattle.vortex_dict.proofs.BytesLemmas.{sum_rows}
use Rattle.vortex_dict.proofs.bytes.BytesDictEncoder.law.Goals as goal

pub returns-clause-distinct : goal.returns-clause-distinct
returns-clause-distinct g c = rw (← c.self.view_is) (own_distinct same_key same_key-Decides bytes_or_null bytes_apart c.self.inside.lookup c.law.ensures)

pub returns-clause-small : goal.returns-clause-small
returns-clause-small g c = rw (← c.self.view_is) (let all = sum_rows c.self.inside.lookup in omega (arith, all, c.byte_len-size.ensures.sum, c.byte_len-size.ensures.small))

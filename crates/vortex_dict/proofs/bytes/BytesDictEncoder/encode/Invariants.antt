use Rattle.std.proofs.Common.{◌≡◌, ◌≤◌, map, length, vec_capacity}
use Rattle.vortex_dict.specs.KeyRows.{bytes_or_null}
use Rattle.vortex_dict.specs.Encoding.{code_number}
use Rattle.vortex_dict.specs.Limits.{bytes_over}
use Rattle.vortex_dict.proofs.EncodingLemmas.{After}
use Rattle.vortex_dict.proofs.bytes.BytesDictEncoder.encode.Given as goal

abbrev pub invariant-loop-i : goal.invariant-loop-i
invariant-loop-i g l = After (bytes_over g.Code.WholeNumber.format l.initial.self.constraints) l.initial.self.values (map bytes_or_null l.rows) l.i l.self.values (map (code_number g.Code.WholeNumber.number) l.codes.items) × (l.self.constraints ≡ l.initial.self.constraints) × (length l.rows ≤ vec_capacity l.codes)

use Rattle.std.proofs.Common.{◌≡◌, ◌≤◌, map, length, vec_capacity}
use Rattle.vortex_number.specs.PType.{byte_width_of}
use Rattle.vortex_dict.specs.KeyRows.{number_or_null}
use Rattle.vortex_dict.specs.Encoding.{code_number}
use Rattle.vortex_dict.specs.Limits.{numbers_over}
use Rattle.vortex_dict.proofs.EncodingLemmas.{After}
use Rattle.vortex_dict.proofs.primitive.PrimitiveDictEncoder.encode.Given as goal

abbrev pub invariant-loop-i : goal.invariant-loop-i
invariant-loop-i g l = After (numbers_over g.Code.WholeNumber.format (byte_width_of g.T.NativePType.PTYPE) l.initial.self.constraints) l.initial.self.values (map (number_or_null g.T.WholeNumber.number) l.rows) l.i l.self.values (map (code_number g.Code.WholeNumber.number) l.codes.items) × (l.self.constraints ≡ l.initial.self.constraints) × (length l.rows ≤ vec_capacity l.codes)

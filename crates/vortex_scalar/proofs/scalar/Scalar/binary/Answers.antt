use Rattle.std.proofs.Common.{refl, subst}
use Rattle.vortex_terms.specs.Term.{binary}
use Rattle.vortex_terms.specs.Types.{IsBytes}
use Rattle.vortex_terms.specs.Row.{bytes_row}
use Rattle.vortex_names.specs.Nullable.{is_nullable}
use Rattle.vortex_scalar_value.specs.Value.{bytes_value}
use Rattle.vortex_scalar.proofs.Rows.{fits_as, made_as}
use Rattle.vortex_scalar.proofs.scalar.Scalar.binary.Goals as goal

pub new-requires : goal.new-requires
new-requires c =
    fits_as (binary (is_nullable c.args.nullability)) c.from_buffer.result (bytes_value c.args.buffer.bytes) (bytes_row c.args.buffer.bytes)
    c.from_buffer.ensures refl (subst IsBytes c.as_slice.ensures c.bytes_law.ensures)

pub returns : goal.returns
returns c =
    made_as (binary (is_nullable c.args.nullability)) c.from_buffer.result (bytes_value c.args.buffer.bytes) (bytes_row c.args.buffer.bytes) c.new.result
    c.from_buffer.ensures refl (subst IsBytes c.as_slice.ensures c.bytes_law.ensures) c.new.ensures
